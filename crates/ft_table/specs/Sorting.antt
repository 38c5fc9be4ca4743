-- The order of rows (kernel: histogram.rst, `sort`).
use Rattle.std.specs.Prelude.{List, [], ◌∷◌, map, slice_get, if◌then◌else◌}
use Rattle.std.specs.List.{IsDistinct}
use Rattle.std.specs.declared.cmp.Ordering.{Ordering}
use Rattle.std.specs.Ordering.{nat_cmp, on, then_cmp, eq_by_cmp, is_gt}
use Rattle.std.specs.Option.{option_cmp}
use Rattle.ft_hist.specs.declared.item.SortBy.{SortBy}
use Rattle.ft_hist.specs.declared.item.SortBy.TheVariants as sorts
use Rattle.ft_hist.specs.declared.item.SortItem.{SortItem}
use Rattle.ft_fields.specs.Parts.{part_cmp, key_cmp}
use Rattle.ft_table.specs.Counted.{Counted}

-- rows by hits, by a part of the key, or by a sum, the least first; a part that isn't there stands before any other (kernel: histogram.rst, `sort`; missing parts are our own choice)
abbrev pub by_cmp : SortBy → Counted → Counted → Ordering
by_cmp sorts.Hits = on (λ row. row.hitcount) nat_cmp
by_cmp (sorts.Key n) = on (λ row. slice_get row.key n) (option_cmp part_cmp)
by_cmp (sorts.Value n) = on (λ row. slice_get row.sums n) (option_cmp nat_cmp)

-- rows by a sort item: ascending, or with the greatest first (kernel: histogram.rst, `sort`)
abbrev pub item_cmp : SortItem → Counted → Counted → Ordering
item_cmp item a b = if item.descending then by_cmp item.what b a else by_cmp item.what a b

-- rows by the sort items from the left, and by key if these leave them equal (kernel: histogram.rst, `sort`; equal rows by key is our own choice)
abbrev pub row_cmp : List SortItem → Counted → Counted → Ordering
row_cmp [] = on (λ row. row.key) key_cmp
row_cmp (item ∷ items) = then_cmp (item_cmp item) (row_cmp items)

-- no two rows have the same key, as in a table (kernel: histogram.rst, the `hist` file)
abbrev pub HasDistinctKeys : List Counted → Type 0
HasDistinctKeys rows = IsDistinct (eq_by_cmp key_cmp) (map (λ row. row.key) rows)

-- a row put among rows in order: after all that come before it
abbrev pub row_among : List SortItem → Counted → List Counted → List Counted
row_among sort row [] = row ∷ []
row_among sort row (first ∷ rest) = if is_gt (row_cmp sort row first) then first ∷ row_among sort row rest else row ∷ first ∷ rest

-- rows in order (kernel: histogram.rst, `sort`)
unfoldable pub in_order : List SortItem → List Counted → List Counted
in_order sort [] = []
in_order sort (row ∷ rows) = row_among sort row (in_order sort rows)
