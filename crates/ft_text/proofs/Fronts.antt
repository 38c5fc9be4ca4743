-- Texts that begin with an older one, through several steps.
use Rattle.std.proofs.Common.{◌≡◌, List, ℕ, ◌++◌, take, length, Result, Ok, Err, subst, sym, ap, ◌∙◌, ◌≤◌, arith}
use Rattle.std.specs.Prelude.{OnErr, if◌then◌else◌}
use Rattle.std.specs.Result.{is_ok}
use Rattle.std.proofs.lemmas.List.{take_at, take-take, length-take}
use Rattle.ft_text.specs.Fronts.{IsFront}

-- a text begins with what stood before something was added
pub front_of_more : (old new end : List ℕ) → new ≡ old ++ end → IsFront old new
front_of_more old new end h = ap (take (length old)) h ∙ take_at old end (length old) (omega arith)

-- a text begins with what a front of it begins with
pub front_of_front : (old mid new : List ℕ) → IsFront old mid → IsFront mid new → IsFront old new
front_of_front old mid new before after =
    let shorter : length old ≤ length mid = omega (arith, length-take (length old) mid, ap length before) in
    sym (take-take (length old) (length mid) new shorter) ∙ ap (take (length old)) after ∙ before

-- a text begins with something if it begins with that and what was added to it
pub front_before : (old mid new end : List ℕ) → mid ≡ old ++ end → IsFront mid new → IsFront old new
front_before old mid new end h front = front_of_front old mid new (front_of_more old mid end h) front

-- a text begins with a front of something if it begins with that and what was added to it
pub front_past : (old mid later new end : List ℕ) → IsFront old mid → later ≡ mid ++ end → IsFront later new → IsFront old new
front_past old mid later new end before h after = front_of_front old mid new before (front_before mid later new end h after)

-- a text begins with a front of what stood before something that was refused
pub front_refused : {T E : Type 0} (r : Result T E) (old mid more new : List ℕ) → IsFront old mid → new ≡ (if is_ok r then mid ++ more else mid) → OnErr r (IsFront old new)
front_refused (Ok x) old mid more new front added = tt
front_refused (Err e) old mid more new front added = subst (λ (t : List ℕ). IsFront old t) (sym added) front
