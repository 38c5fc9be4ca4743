-- The order of rows is total, and rows that tie have one key.
use Rattle.std.proofs.Common.{◌≡◌, List, [], ◌∷◌}
use Rattle.std.specs.Prelude.{Bool, true, false, if◌then◌else◌, slice_get}
use Rattle.std.specs.declared.cmp.Ordering.{Ordering}
use Rattle.std.specs.declared.cmp.Ordering.TheVariants.{Less, Equal, Greater}
use Rattle.std.specs.Ordering.{ordering_then}
use Rattle.std.specs.Cmp.{IsTotalOrder, on_total, then_total, back_total, nat_cmp_total}
use Rattle.std.specs.Cmp.Lexicographic.{options_total}
use Rattle.ft_hist.specs.declared.item.SortBy.{SortBy}
use Rattle.ft_hist.specs.declared.item.SortBy.TheVariants as sorts
use Rattle.ft_hist.specs.declared.item.SortItem.{SortItem}
use Rattle.ft_fields.specs.Orders.{part_cmp_total, key_cmp_total}
use Rattle.ft_fields.specs.Ties.{key_same}
use Rattle.ft_table.specs.Counted.{Counted}
use Rattle.ft_table.specs.Sorting.{by_cmp, item_cmp, row_cmp}

by_cmp_total : (by : SortBy) → IsTotalOrder (by_cmp by)
by_cmp_total sorts.Hits = on_total (λ row. row.hitcount) nat_cmp_total
by_cmp_total (sorts.Key n) = on_total (λ row. slice_get row.key n) (options_total part_cmp_total)
by_cmp_total (sorts.Value n) = on_total (λ row. slice_get row.sums n) (options_total nat_cmp_total)

item_cmp_total : (item : SortItem) → IsTotalOrder (item_cmp item)
item_cmp_total item = from item.descending
  where
    from : (descending : Bool) → IsTotalOrder {K = Counted} (λ a b. if descending then by_cmp item.what b a else by_cmp item.what a b)
    from true = back_total (by_cmp_total item.what)
    from false = by_cmp_total item.what

-- any sort items give a total order
pub row_cmp_total : (sort : List SortItem) → IsTotalOrder (row_cmp sort)
row_cmp_total [] = on_total (λ row. row.key) key_cmp_total
row_cmp_total (item ∷ items) = then_total (item_cmp_total item) (row_cmp_total items)

second_ties : (one two : Ordering) → ordering_then one two ≡ Equal → two ≡ Equal
second_ties Less two e = absurd cc
second_ties Equal two e = e
second_ties Greater two e = absurd cc

-- rows that tie have one key
pub one_key : (sort : List SortItem) (a b : Counted) → row_cmp sort a b ≡ Equal → a.key ≡ b.key
one_key [] a b e = key_same a.key b.key e
one_key (item ∷ items) a b e = one_key items a b (second_ties (item_cmp item a b) (row_cmp items a b) e)
