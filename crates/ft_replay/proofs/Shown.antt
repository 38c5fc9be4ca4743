-- What is read off a table's tally is what the table shows.
use Rattle.std.proofs.Common.{◌≡◌, ℕ, ◌+◌, List, [], ◌∷◌, map as list_map, refl, sym, subst, ◌∙◌, Some, None}
use Rattle.std.specs.Prelude.{cond, fold, IsPermutation, IsSorted}
use Rattle.std.specs.List.{IsDistinct, sum_by}
use Rattle.std.specs.declared.cmp.Ordering.{Ordering}
use Rattle.std.specs.declared.cmp.Ordering.TheVariants.{Less, Equal, Greater}
use Rattle.std.specs.Ordering.{is_eq}
use Rattle.std.specs.FinMap as map
use Rattle.std.specs.FinMap.{find, put, entries-insert, get-entries}
use Rattle.std.specs.FinMap.Entries.{by_order}
use Rattle.std.proofs.lemmas.List.Sorted.{IsPermutation-refl, IsPermutation-sym, IsPermutation-trans, IsPermutation-cons, IsPermutation-middle, IsPermutation-map, sum_by-IsPermutation}
use Rattle.ft_hist.specs.declared.item.SortItem.{SortItem}
use Rattle.ft_fields.specs.declared.key.Part.{Part}
use Rattle.ft_fields.specs.Parts.{key_cmp, same_key}
use Rattle.ft_fields.specs.Orders.{key_cmp_total}
use Rattle.ft_maps.specs.Entries.{entries-empty}
use Rattle.ft_table.specs.Counted.{Counted}
use Rattle.ft_table.specs.Hits.{Hits, hitcount}
use Rattle.ft_table.specs.Rows.{counted_row, rows_of, totals_of}
use Rattle.ft_table.specs.Sorting.{row_cmp, in_order, HasDistinctKeys}
use Rattle.ft_table.specs.Tabled.{Tabled, keys_in}
use Rattle.ft_table.proofs.Distinct.{keys_distinct, rows_distinct}
use Rattle.ft_replay.specs.declared.pair.Pair.{Pair}
use Rattle.ft_replay.specs.Tally.{rows_in, totals_in, tally_of}
use Rattle.ft_replay.proofs.Growing.{rows_by, no_row, len-tally, dropped-tally}

-- ---- the values of a map, in any order

-- an entry that is put among entries without its key is one more
put_permutes : {K X : Type 0} (R : K → K → Ordering) (k : K) (v : X) (es : List (K × X)) → find R k es ≡ None → IsPermutation ((k, v) ∷ es) (put R k v es)
put_permutes R k v [] none = IsPermutation-refl ((k, v) ∷ [])
put_permutes R k v (e ∷ es) none = from (R k e.0) none (put_permutes R k v es)
  where
    from : (o : Ordering) → cond (is_eq o) (Some e.1) (find R k es) ≡ None → (find R k es ≡ None → IsPermutation ((k, v) ∷ es) (put R k v es)) → IsPermutation ((k, v) ∷ e ∷ es) (by_order o ((k, v) ∷ e ∷ es) ((e.0, v) ∷ es) (e ∷ put R k v es))
    from Less none rest = IsPermutation-refl ((k, v) ∷ e ∷ es)
    from Equal none rest = absurd cc
    from Greater none rest =
        IsPermutation-trans _ _ _ (IsPermutation-sym _ _ (IsPermutation-middle (e ∷ []) (k, v) es)) (IsPermutation-cons e ((k, v) ∷ es) (put R k v es) (rest none))

-- the values of the rows of some keys are these rows
pub values-rows_by : (hits : Hits) (keys : List (List Part)) → IsDistinct same_key keys → IsPermutation (list_map (counted_row hits) keys) (map.values (rows_by hits keys))
unfolding IsDistinct
values-rows_by hits [] apart = subst (λ es. IsPermutation [] (list_map (λ e. e.1) es)) (sym (entries-empty {X = Counted} key_cmp)) (IsPermutation-refl [])
values-rows_by hits (key ∷ keys) apart =
    IsPermutation-trans _ _ _ (IsPermutation-cons (counted_row hits key) (list_map (counted_row hits) keys) (map.values (rows_by hits keys)) (values-rows_by hits keys apart.1))
    (subst (λ es. IsPermutation (counted_row hits key ∷ map.values (rows_by hits keys)) (list_map (λ e. e.1) es)) (sym (entries-insert key_cmp_total (rows_by hits keys) key (counted_row hits key)))
    (IsPermutation-map (λ e. e.1) ((key, counted_row hits key) ∷ map.entries (rows_by hits keys)) (put key_cmp key (counted_row hits key) (map.entries (rows_by hits keys)))
    (put_permutes key_cmp key (counted_row hits key) (map.entries (rows_by hits keys)) (sym (get-entries (rows_by hits keys) key) ∙ no_row hits key keys apart.0))))

-- the rows of a table's tally are those of its keys
pub values-tally : (table : Tabled) (pairs : List Pair) → IsPermutation (list_map (counted_row table.hits) (keys_in table)) (map.values (tally_of table pairs).table)
unfolding tally_of
values-tally table pairs = values-rows_by table.hits (keys_in table) (keys_distinct table)

-- ---- rows

module _ (permutation : (sort : List SortItem) (rows : List Counted) → IsPermutation rows (in_order sort rows)) (sorted : (sort : List SortItem) (rows : List Counted) → IsSorted (row_cmp sort) (in_order sort rows))
    (alone : (sort : List SortItem) (rows others : List Counted) → HasDistinctKeys rows → IsPermutation rows others → IsSorted (row_cmp sort) others → others ≡ in_order sort rows) where
  -- the rows that a table's tally shows are those of the table
  pub rows-tally : (table : Tabled) (pairs : List Pair) (sort : List SortItem) → rows_in sort (tally_of table pairs) ≡ rows_of table sort
  rows-tally table pairs sort =
      let values : List Counted = map.values (tally_of table pairs).table in
      alone sort (list_map (counted_row table.hits) (keys_in table)) (in_order sort values) (rows_distinct table)
      (IsPermutation-trans (list_map (counted_row table.hits) (keys_in table)) values (in_order sort values) (values-tally table pairs) (permutation sort values)) (sorted sort values)

-- ---- totals

sum_by-map : {X Y : Type 0} (f : Y → ℕ) (g : X → Y) (xs : List X) (n : ℕ) → fold (λ a x. a + f x) n (list_map g xs) ≡ fold (λ a x. a + f (g x)) n xs
sum_by-map f g [] n = refl
sum_by-map f g (x ∷ xs) n = sum_by-map f g xs (n + f (g x))

-- the totals of a table's tally are those of the table
pub totals-tally : (table : Tabled) (pairs : List Pair) → totals_in (tally_of table pairs) ≡ totals_of table
totals-tally table pairs =
    let hits : sum_by (λ row. row.hitcount) (map.values (tally_of table pairs).table) ≡ sum_by (hitcount table.hits) (keys_in table) =
    sum_by-IsPermutation (λ row. row.hitcount) (list_map (counted_row table.hits) (keys_in table)) (map.values (tally_of table pairs).table) (values-tally table pairs)
    ∙ sum_by-map (λ row. row.hitcount) (counted_row table.hits) (keys_in table) 0 in
    λ i. record { hits = hits i; entries = len-tally table pairs i; dropped = dropped-tally table pairs i }
