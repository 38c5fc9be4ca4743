-- A finite map with each value seen through a function.
use Rattle.std.specs.Prelude.{◌≡◌, Bool, true, false, List, [], ◌∷◌, Option, Some, map as list_map, option_map}
use Rattle.std.specs.List.Sorted.{IsStrictlySortedBy}
use Rattle.std.specs.declared.cmp.Ordering.{Ordering}
use Rattle.std.specs.Ordering.{eq_by_cmp}
use Rattle.std.specs.Cmp.{IsTotalOrder}
use Rattle.std.specs.Map.{keys_of}
use Rattle.std.specs.FinMap as finite
use Rattle.std.specs.FinMap.{FinMap, IsAntisymmetric, find, entries_sorted, get-entries, get-from_entries, get-insert, same_map}
use Rattle.std.proofs.Common.{cond, refl, sym, ap, subst, ◌∙◌}
use Rattle.ft_maps.specs.Entries.{entries-empty, entries-from_entries, strictly_sorted}

module _ {K X Y : Type 0} (f : X → Y) where
  -- entries with their values seen through f
  abbrev pub entries_by : List (K × X) → List (K × Y)
  entries_by es = list_map (λ e. (e.0, f e.1)) es

  -- the map with its values seen through f
  abbrev pub map_by : {R : K → K → Ordering} → FinMap R X → FinMap R Y
  map_by m = finite.from_entries (entries_by (finite.entries m))

  keys-entries_by : (es : List (K × X)) → keys_of (entries_by es) ≡ keys_of es
  keys-entries_by [] = refl
  keys-entries_by (e ∷ es) = ap (λ (ks : List K). e.0 ∷ ks) (keys-entries_by es)

  module _ (R : K → K → Ordering) where
    -- nothing is seen of the empty map
    pub map_by-empty : map_by (finite.empty {X = X} {R = R}) ≡ finite.empty
    map_by-empty = ap (λ es. finite.from_entries {R = R} (entries_by es)) (entries-empty R)

    found : (at : Bool) (v : X) (rest : Option X) → cond at (Some (f v)) (option_map f rest) ≡ option_map f (cond at (Some v) rest)
    found true v rest = refl
    found false v rest = refl

    find-entries_by : (q : K) (es : List (K × X)) → find R q (entries_by es) ≡ option_map f (find R q es)
    find-entries_by q [] = refl
    find-entries_by q (e ∷ es) = ap (cond (eq_by_cmp R q e.0) (Some (f e.1))) (find-entries_by q es) ∙ found (eq_by_cmp R q e.0) e.1 (find R q es)

  module _ {R : K → K → Ordering} (total : IsTotalOrder R) where
    -- its entries are those of the map, seen through f
    pub entries-map_by : (m : FinMap R X) → finite.entries (map_by m) ≡ entries_by (finite.entries m)
    entries-map_by m = entries-from_entries total _ (subst (IsStrictlySortedBy R) (sym (keys-entries_by (finite.entries m))) (strictly_sorted R (finite.entries m) (entries_sorted m)))

    -- a look-up is one in the map, seen through f
    pub get-map_by : (m : FinMap R X) (q : K) → finite.get (map_by m) q ≡ option_map f (finite.get m q)
    get-map_by m q = get-from_entries total _ q ∙ find-entries_by R q (finite.entries m) ∙ ap (option_map f) (sym (get-entries m q))

    -- an insertion is one of the value, seen through f
    pub map_by-insert : IsAntisymmetric R → (m : FinMap R X) (k : K) (v : X) → map_by (finite.insert m k v) ≡ finite.insert (map_by m) k (f v)
    map_by-insert same m k v = same_map total same _ _ (λ q.
        get-map_by (finite.insert m k v) q ∙ ap (option_map f) (get-insert total m k v q) ∙ sym (found R (eq_by_cmp R q k) v (finite.get m q))
        ∙ sym (get-insert total (map_by m) k (f v) q ∙ ap (cond (eq_by_cmp R q k) (Some (f v))) (get-map_by m q)))
