-- CPUs that begin late.
use Rattle.std.specs.Prelude.{◌≡◌, ◌≤◌, ◌<◌, ◌+◌, ◌||◌, ◌&&◌, ℕ, zero, suc, Bool, true, false, not, nat_lt, List, [], ◌∷◌, Option, Some, None, if◌then◌else◌}
use Rattle.std.specs.List.{AllByRecursion, list_any}
use Rattle.std.proofs.Common.{refl, sym, ap, ◌∙◌, arith, add-one}
use Rattle.std.proofs.Math.Bool.{or-false}
use Rattle.std.proofs.lemmas.List.Folds.{list_any-append}
use Rattle.ft_fields.specs.Traced.{last_cpu}
use Rattle.ft_losses.specs.Holes.{cpus_below, is_earlier, any_earlier, late_hole, all_late, late_by}
use Rattle.ft_losses.specs.Telling.{IsCpu}
use Rattle.ft_losses.specs.declared.hole.Header.{Header}
use Rattle.ft_losses.specs.declared.hole.Hole.{Hole}
use Rattle.ft_losses.proofs.Lasting.{same-below, below-within}

-- a CPU more
pub any-more : (p : ℕ → Bool) (cpu : ℕ) → list_any p (cpus_below (cpu + 1)) ≡ (list_any p (cpus_below cpu) || p cpu)
unfolding cpus_below
any-more p cpu =
    ap (λ (n : ℕ). list_any p (cpus_below n)) (add-one cpu)
    ∙ list_any-append p (cpus_below cpu) (cpu ∷ [])
    ∙ ap (λ b. list_any p (cpus_below cpu) || b) (or-false (p cpu))

-- a test of CPUs below a number
pub any-below : (p q : ℕ → Bool) (n : ℕ) → ((cpu : ℕ) → cpu < n → p cpu ≡ q cpu) → list_any p (cpus_below n) ≡ list_any q (cpus_below n)
unfolding cpus_below
any-below p q zero same = refl
any-below p q (suc n) same =
    list_any-append p (cpus_below n) (n ∷ [])
    ∙ ap (λ b. list_any p (cpus_below n) || b) (or-false (p n) ∙ same n (omega arith) ∙ sym (or-false (q n)))
    ∙ ap (λ b. b || list_any q (n ∷ [])) (any-below p q n (λ cpu low. same cpu (omega (arith, low))))
    ∙ sym (list_any-append q (cpus_below n) (n ∷ []))

-- the same holes of the same first stamps
module _ (f g : ℕ → Option ℕ) (same : (cpu : ℕ) → cpu ≤ last_cpu → f cpu ≡ g cpu) where
  earlier-same : (stamp : ℕ) → any_earlier f stamp ≡ any_earlier g stamp
  earlier-same stamp = any-below (λ cpu. is_earlier (f cpu) stamp) (λ cpu. is_earlier (g cpu) stamp) 8192 (λ cpu low. ap (λ (first : Option ℕ). is_earlier first stamp) (same cpu (omega (arith, low))))

  all-late-same : (line : ℕ) → all_late f line ≡ all_late g line
  all-late-same line = same-below (λ cpu. late_hole (any_earlier f) line cpu (f cpu)) (λ cpu. late_hole (any_earlier g) line cpu (g cpu)) 8192 (λ cpu low.
      ap (λ (e : ℕ → Bool). late_hole e line cpu (f cpu)) (λ i stamp. earlier-same stamp i) ∙ ap (late_hole (any_earlier g) line cpu) (same cpu (omega (arith, low))))

  pub late-same : (marked : Bool) (header : Option Header) → late_by f marked header ≡ late_by g marked header
  late-same marked None = refl
  late-same marked (Some header) = ap (λ (hs : List Hole). if nat_lt header.buffers.held header.buffers.written && not marked then hs else []) (all-late-same header.line)

-- each is on a CPU that there can be
one-late : (earlier : ℕ → Bool) (line cpu : ℕ) (first : Option ℕ) → cpu ≤ last_cpu → AllByRecursion (λ (hole : Hole). IsCpu hole.cpu) (late_hole earlier line cpu first)
one-late earlier line cpu None fits = tt
one-late earlier line cpu (Some first) fits = by_test (earlier first)
  where
    by_test : (b : Bool) → AllByRecursion (λ (hole : Hole). IsCpu hole.cpu) (if b then (record { cpu = Some cpu; line = line; after = None; before = Some first; count = None } ∷ []) else [])
    by_test true = (fits, tt)
    by_test false = tt

pub late-within : (f : ℕ → Option ℕ) (marked : Bool) (header : Option Header) → AllByRecursion (λ (hole : Hole). IsCpu hole.cpu) (late_by f marked header)
late-within f marked None = tt
late-within f marked (Some header) = by_test (nat_lt header.buffers.held header.buffers.written && not marked)
  where
    by_test : (b : Bool) → AllByRecursion (λ (hole : Hole). IsCpu hole.cpu) (if b then all_late f header.line else [])
    by_test true = below-within (λ cpu. late_hole (any_earlier f) header.line cpu (f cpu)) (λ cpu fits. one-late (any_earlier f) header.line cpu (f cpu) fits) 8192 (omega arith)
    by_test false = tt
