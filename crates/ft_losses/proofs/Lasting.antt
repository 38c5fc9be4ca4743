-- The holes of CPUs below a number.
use Rattle.std.specs.Prelude.{◌≡◌, ◌≤◌, ◌<◌, ◌+◌, ℕ, zero, suc, List, [], ◌∷◌, ◌++◌, Option, Some, None}
use Rattle.std.specs.List.{AllByRecursion, flat_map}
use Rattle.std.specs.Option.{option_and_then}
use Rattle.std.proofs.Common.{refl, sym, ap, subst, ◌∙◌, append_assoc, arith, add-one}
use Rattle.std.proofs.lemmas.List.{append-nil}
use Rattle.std.proofs.lemmas.Grind.{flat_map-append}
use Rattle.std.proofs.lemmas.List.Concat.{flat_map-cons}
use Rattle.ft_fields.specs.Traced.{last_cpu}
use Rattle.ft_losses.specs.Holes.{cpus_below, hole_of, counted_by}
use Rattle.ft_losses.specs.Telling.{IsCpu}
use Rattle.ft_losses.specs.declared.hole.Hole.{Hole}
use Rattle.ft_losses.specs.declared.lanes.Lane.{Lane}
use Rattle.ft_losses.specs.inner.Lanes.{lane_in}
use Rattle.ft_losses.proofs.Noting.{all-more}

-- the hole of a CPU that lasts to the end, by what is kept
abbrev pub kept_hole : List Lane → ℕ → List Hole
kept_hole lanes cpu = hole_of cpu (lane_in lanes cpu).last None (lane_in lanes cpu).lost

-- those of one CPU more
pub one-more : (f : ℕ → List Hole) (old found : List Hole) (cpu : ℕ) → found ≡ old ++ flat_map f (cpus_below cpu) → found ++ f cpu ≡ old ++ flat_map f (cpus_below (cpu + 1))
unfolding cpus_below
one-more f old found cpu is =
    ap (λ (hs : List Hole). hs ++ f cpu) is ∙ append_assoc old (flat_map f (cpus_below cpu)) (f cpu)
    ∙ ap (λ (hs : List Hole). old ++ hs) (ap (λ (hs : List Hole). flat_map f (cpus_below cpu) ++ hs) (sym (flat_map-cons f cpu [] ∙ append-nil (f cpu))) ∙ sym (flat_map-append f (cpus_below cpu) (cpu ∷ [])))
    ∙ ap (λ (n : ℕ). old ++ flat_map f (cpus_below n)) (sym (add-one cpu))

-- the same holes, if they are the same of each CPU below a number
pub same-below : (f g : ℕ → List Hole) (n : ℕ) → ((cpu : ℕ) → cpu < n → f cpu ≡ g cpu) → flat_map f (cpus_below n) ≡ flat_map g (cpus_below n)
unfolding cpus_below
same-below f g zero same = refl
same-below f g (suc n) same =
    flat_map-append f (cpus_below n) (n ∷ []) ∙ ap (λ (hs : List Hole). flat_map f (cpus_below n) ++ hs) (flat_map-cons f n [] ∙ append-nil (f n) ∙ same n (omega arith) ∙ sym (flat_map-cons g n [] ∙ append-nil (g n)))
    ∙ ap (λ (hs : List Hole). hs ++ flat_map g (n ∷ [])) (same-below f g n (λ cpu low. same cpu (omega (arith, low))))
    ∙ sym (flat_map-append g (cpus_below n) (n ∷ []))

-- each of these holes is on a CPU that there can be
pub below-within : (f : ℕ → List Hole) → ((cpu : ℕ) → cpu ≤ last_cpu → AllByRecursion (λ (hole : Hole). IsCpu hole.cpu) (f cpu)) → (n : ℕ) → n ≤ suc last_cpu → AllByRecursion (λ (hole : Hole). IsCpu hole.cpu) (flat_map f (cpus_below n))
unfolding cpus_below
below-within f each zero fits = tt
below-within f each (suc n) fits = subst (AllByRecursion (λ (hole : Hole). IsCpu hole.cpu)) (sym (flat_map-append f (cpus_below n) (n ∷ []) ∙ ap (λ (hs : List Hole). flat_map f (cpus_below n) ++ hs) (flat_map-cons f n [] ∙ append-nil (f n))))
    (all-more (flat_map f (cpus_below n)) (f n) (below-within f each n (omega (arith, fits))) (each n (omega (arith, fits))))

-- the same of a CPU that there can be
pub same-at : (f g : ℕ → Option ℕ) (cpu : Option ℕ) → ((c : ℕ) → c ≤ last_cpu → f c ≡ g c) → IsCpu cpu → option_and_then f cpu ≡ option_and_then g cpu
same-at f g None same fits = refl
same-at f g (Some c) same fits = same c fits

-- holes are counted alike, if the counts are the same of their CPUs
pub same-counts : (f g : ℕ → Option ℕ) (hs : List Hole) → ((cpu : ℕ) → cpu ≤ last_cpu → f cpu ≡ g cpu) → AllByRecursion (λ (hole : Hole). IsCpu hole.cpu) hs
    → flat_map (λ (hole : Hole). counted_by (option_and_then f hole.cpu) hole) hs ≡ flat_map (λ (hole : Hole). counted_by (option_and_then g hole.cpu) hole) hs
same-counts f g [] same within = refl
same-counts f g (h ∷ hs) same within =
    flat_map-cons (λ (hole : Hole). counted_by (option_and_then f hole.cpu) hole) h hs
    ∙ ap (λ (c : Option ℕ). counted_by c h ++ flat_map (λ (hole : Hole). counted_by (option_and_then f hole.cpu) hole) hs) (same-at f g h.cpu same within.0)
    ∙ ap (λ (rest : List Hole). counted_by (option_and_then g h.cpu) h ++ rest) (same-counts f g hs same within.1)
    ∙ sym (flat_map-cons (λ (hole : Hole). counted_by (option_and_then g hole.cpu) hole) h hs)
