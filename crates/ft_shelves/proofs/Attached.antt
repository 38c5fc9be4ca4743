-- The entries of a finite map, each found at its key.
use Rattle.std.proofs.Common.{◌≡◌, cond, List, [], ◌∷◌, ap, ◌∙◌, Some}
use Rattle.std.specs.List.{AllByRecursion}
use Rattle.std.specs.List.Sorted.{IsStrictlySortedBy}
use Rattle.std.specs.Map.{keys_of}
use Rattle.std.specs.declared.cmp.Ordering.{Ordering}
use Rattle.std.specs.declared.cmp.Ordering.TheVariants.{Less}
use Rattle.std.specs.Ordering.{is_eq, ordering_reverse}
use Rattle.std.specs.Cmp.{IsTotalOrder, eq_by_cmp_equiv}
use Rattle.std.specs.FinMap as map
use Rattle.std.specs.FinMap.{FinMap, find, entries_sorted, get-entries}
use Rattle.std.proofs.lemmas.Map.Keys.{sorted_head, sorted_tail}
use Rattle.ft_maps.specs.Entries.{strictly_sorted}
use Rattle.ft_maps.proofs.Common.{all_map}

module _ {K X : Type 0} (R : K → K → Ordering) (total : IsTotalOrder R) where
  -- an entry in front is not found at keys after it
  behind : (e : K × X) (es found : List (K × X)) → AllByRecursion (λ q. R e.0 q ≡ Less) (keys_of es) → AllByRecursion (λ q. find R q.0 found ≡ Some q.1) es
      → AllByRecursion (λ q. find R q.0 (e ∷ found) ≡ Some q.1) es
  behind e [] found above each = tt
  behind e (q ∷ es) found above each = (
    ap (λ b. cond b (Some e.1) (find R q.0 found)) (ap is_eq (total.antisymm q.0 e.0 ∙ ap ordering_reverse above.0)) ∙ each.0,
    behind e es found above.1 each.1,
  )

  found_each : (es : List (K × X)) → IsStrictlySortedBy R (keys_of es) → AllByRecursion (λ e. find R e.0 es ≡ Some e.1) es
  found_each [] sorted = tt
  found_each (e ∷ es) sorted = (
    ap (λ b. cond b (Some e.1) (find R e.0 es)) ((eq_by_cmp_equiv total).refl e.0),
    behind e es es (sorted_head R e.0 (keys_of es) sorted) (found_each es (sorted_tail R e.0 (keys_of es) sorted)),
  )

  -- at each entry's key the map has the entry's value
  pub each_found : (m : FinMap R X) → AllByRecursion (λ e. map.get m e.0 ≡ Some e.1) (map.entries m)
  each_found m = all_map _ _ (λ e is. get-entries m e.0 ∙ is) (map.entries m) (found_each (map.entries m) (strictly_sorted R (map.entries m) (entries_sorted m)))
