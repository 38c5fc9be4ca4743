-- A walk over the operations on a variable passes each of its reads.
use Rattle.std.proofs.Common.{◌≡◌, sym, ap, subst, ◌∙◌, refl, Some, None, Option, inl, inr, ◌⊎◌, Less, Equal, Greater}
use Rattle.std.specs.Prelude.{⊤}
use Rattle.std.specs.Ordering.{ordering_reverse}
use Rattle.ft_pairs.specs.Next.{IsNext}
use Rattle.ft_pairs.specs.Order.{at_cmp, at_cmp_total, at_same}
use Rattle.ft_pairs.specs.Source.{Ops}
use Rattle.ft_pairs.specs.declared.at.At.{At}
use Rattle.ft_pairs.specs.declared.at.Op.{Op}
use Rattle.ft_pairs.specs.declared.at.Op.TheVariants.{Read}
use Rattle.ft_kept.specs.inner.Readings.{IsReadAt}
use Rattle.ft_pairs.proofs.Local.{there_not_none}
use Rattle.ft_pairs.proofs.Nexts.{same_step}

-- a place is in front of the next step of a walk
abbrev pub IsPassed : Option (At × Op) → At → Type 0
IsPassed None q = ⊤
IsPassed (Some step) q = at_cmp q step.0 ≡ Less

-- a read that a walk has passed
abbrev pub IsPassedRead : Ops → Option (At × Op) → At → Type 0
IsPassedRead ops next q = (ops q ≡ Some Read) × IsPassed next q

-- a next operation stands where it is said to
pub next_there : (ops : Ops) (after : Option At) (next : Option (At × Op)) → IsNext ops after next → (step : At × Op) → next ≡ Some step → ops step.0 ≡ Some step.1
next_there ops after next is_next step is =
    let first : IsNext ops after (Some step) = subst (IsNext ops after) is is_next in
    first.there

module _ (ops : Ops) (q : At) where
  -- at its start it has passed none
  pub walk_begins : (next : Option (At × Op)) → IsNext ops None next → IsPassedRead ops next q → ⊥
  walk_begins None none passed = there_not_none ops q Read passed.0 (none q tt)
  walk_begins (Some step) first passed = there_not_none ops q Read passed.0 (first.none q tt passed.1)

  -- one step passes the read there, if there is one
  pub walk_goes_on : (step : At × Op) (next : Option (At × Op)) → ops step.0 ≡ Some step.1 → IsNext ops (Some step.0) next
      → IsPassedRead ops next q → IsPassedRead ops (Some step) q ⊎ IsReadAt (Some step) q
  walk_goes_on step next there is_next passed = elim (at_cmp q step.0) as (λ o. at_cmp q step.0 ≡ o → IsPassedRead ops (Some step) q ⊎ IsReadAt (Some step) q) [
    | Less ↦ λ less. inl (passed.0, less)
    | Equal ↦ λ tie. inr (same_step ops step.0 q step.1 Read (sym (at_same q step.0 tie)) there passed.0)
    | Greater ↦ λ more. absurd (none_between (at_cmp_total.antisymm step.0 q ∙ ap ordering_reverse more) next is_next passed)
  ] refl
    where
      none_between : at_cmp step.0 q ≡ Less → (next : Option (At × Op)) → IsNext ops (Some step.0) next → IsPassedRead ops next q → ⊥
      none_between behind None none passed = there_not_none ops q Read passed.0 (none q behind)
      none_between behind (Some n) first passed = there_not_none ops q Read passed.0 (first.none q behind passed.1)
