-- What is kept of each CPU after one note more.
use Rattle.std.specs.Prelude.{◌≡◌, ◌≤◌, ◌==◌, ℕ, Bool, true, false, List, if◌then◌else◌}
use Rattle.std.proofs.Common.{refl, ap, ◌∙◌, cond}
use Rattle.std.proofs.lemmas.Bool.{eqb-true}
use Rattle.ft_fields.specs.Traced.{last_cpu}
use Rattle.ft_losses.specs.inner.Lanes.{lane_in}
use Rattle.ft_losses.specs.declared.lanes.Lane.{Lane}

-- a part of the lane that was chosen
part-of : {T : Type 0} (f : Lane → T) (b : Bool) (x y : Lane) (p q : T) → (b ≡ true → f x ≡ p) → f y ≡ q → f (cond b x y) ≡ cond b p q
part-of f true x y p q one other = one refl
part-of f false x y p q one other = other

-- a choice between two that are the same
either : {T : Type 0} (b : Bool) (q : T) → cond b q q ≡ q
either true q = refl
either false q = refl

-- one lane changes from old to new
abbrev pub ChangesLane : List Lane → ℕ → (Lane → Lane) → List Lane → Type 0
ChangesLane old c change new = (other : ℕ) → other ≤ last_cpu → lane_in new other ≡ if c == other then change (lane_in old c) else lane_in old other

-- a part that changes with it
pub changed-part : {T : Type 0} (f : Lane → T) (old new : List Lane) (c : ℕ) (change : Lane → Lane) (to : T → T) (is : ℕ → T) → ChangesLane old c change new
    → ((l : Lane) → f (change l) ≡ to (f l)) → ((other : ℕ) → other ≤ last_cpu → f (lane_in old other) ≡ is other)
    → (other : ℕ) → other ≤ last_cpu → f (lane_in new other) ≡ if c == other then to (is other) else is other
changed-part f old new c change to is at law known other fits =
    ap f (at other fits)
    ∙ part-of f (c == other) (change (lane_in old c)) (lane_in old other) (to (is other)) (is other)
    (λ e. law (lane_in old c) ∙ ap to (ap (λ k. f (lane_in old k)) (eqb-true c other e) ∙ known other fits)) (known other fits)

-- a part that stays
pub kept-part : {T : Type 0} (f : Lane → T) (old new : List Lane) (c : ℕ) (change : Lane → Lane) (is : ℕ → T) → ChangesLane old c change new
    → ((l : Lane) → f (change l) ≡ f l) → ((other : ℕ) → other ≤ last_cpu → f (lane_in old other) ≡ is other)
    → (other : ℕ) → other ≤ last_cpu → f (lane_in new other) ≡ is other
kept-part f old new c change is at law known other fits = changed-part f old new c change (λ x. x) is at law known other fits ∙ either (c == other) (is other)
