-- What a table shows: rows and totals.
use Rattle.std.specs.Prelude.{ℕ, List, length, map as list_map, Option, Some, None, if◌then◌else◌, IsSome}
use Rattle.std.specs.List.{sum_by}
use Rattle.std.specs.FinMap as map
use Rattle.ft_hist.specs.declared.item.SortItem.{SortItem}
use Rattle.ft_fields.specs.declared.key.Part.{Part}
use Rattle.ft_hist.specs.Fitting.{KeyFits}
use Rattle.ft_hist.specs.Hist.{Hist}
use Rattle.ft_table.specs.Counted.{Counted}
use Rattle.ft_table.specs.declared.row.Totals.{Totals}
use Rattle.ft_hits.specs.Hits.{Hits, hits_of, hitcount, sums_of}
pub use Rattle.ft_hits.specs.Hits.{hit_after}
use Rattle.ft_hits.specs.declared.mark.Mark.{Mark}
use Rattle.ft_table.specs.Sorting.{in_order}
use Rattle.ft_table.specs.Tabled.{Tabled, keys_in, keys_out, is_in}
use Rattle.ft_table.specs.Text.{rows_text}

-- what the hits of a key come to (kernel: histogram.rst, the `hist` file; sums modulo 2^64 are our own choice)
abbrev pub counted_row : Hits → List Part → Counted
counted_row hits key = record { key = key; hitcount = hitcount hits key; sums = sums_of (hits_of hits key) }

-- the row of a key in the table (kernel: histogram.rst, the `hist` file)
abbrev pub row_at : Tabled → List Part → Option Counted
row_at table key = if is_in table key then Some (counted_row table.hits key) else None

-- the rows of the keys in the table, in order of the sort items (kernel: histogram.rst, `sort`)
abbrev pub rows_of : Tabled → List SortItem → List Counted
rows_of table sort = in_order sort (list_map (counted_row table.hits) (keys_in table))

-- the totals: the hits of the keys in the table, these keys, and the hits of the keys outside (kernel: histogram.rst, `Hits`, `Entries` and `Dropped`)
abbrev pub totals_of : Tabled → Totals
totals_of table = record { hits = sum_by (hitcount table.hits) (keys_in table); entries = length (keys_in table); dropped = sum_by (hitcount table.hits) (keys_out table) }

-- the key of each hit fits the trigger's key items
abbrev pub AllFit : Tabled → Hist → Type 0
AllFit table hist = (m : Mark) → IsSome (map.get table.hits m) → KeyFits hist.keys m.key

-- the text of a trigger's table, from its first row on: rows by the trigger's sort items, and totals (kernel: histogram.rst, the `hist` file)
abbrev pub table_text : Tabled → Hist → List ℕ
table_text table hist = rows_text hist (rows_of table hist.sort) (totals_of table)
