-- Rows and their texts: the definitions, worked out on examples.
use Rattle.std.proofs.Common.{◌≡◌, refl, ℕ, pos, negsuc, List, [], ◌∷◌, false, true}
use Rattle.std.specs.Prelude.{Option, Some, None, codes}
use Rattle.std.specs.Fmt.{digits}
use Rattle.ft_fields.specs.declared.event.Name.TheVariants as names
use Rattle.ft_fields.specs.declared.field.Field.{Field}
use Rattle.ft_fields.specs.declared.field.Field.TheVariants as fields
use Rattle.ft_hist.specs.declared.item.KeyItem.{KeyItem}
use Rattle.ft_hist.specs.declared.modifier.Mode.{Mode}
use Rattle.ft_hist.specs.declared.modifier.Mode.TheVariants as modes
use Rattle.ft_hist.specs.declared.item.Item.{Item}
use Rattle.ft_hist.specs.declared.item.Item.TheVariants as items
use Rattle.ft_hist.specs.declared.item.SortItem.{SortItem}
use Rattle.ft_hist.specs.declared.item.SortBy.{SortBy}
use Rattle.ft_hist.specs.declared.item.SortBy.TheVariants as sorts
use Rattle.ft_fields.specs.declared.key.Part.{Part}
use Rattle.ft_fields.specs.declared.key.Part.TheVariants.{Num, Log2, Bucket, Text}
use Rattle.ft_hist.specs.declared.label.Var.{Var}
use Rattle.ft_hist.specs.declared.label.Var.TheVariants as vars
use Rattle.ft_hist.specs.Hist.{Hist}
use Rattle.ft_table.specs.declared.row.Totals.{Totals}
use Rattle.ft_table.specs.Counted.{Counted}
use Rattle.ft_table.specs.Sorting.{in_order}
use Rattle.ft_table.specs.Text.{right_in_10, left_aligned, row_text, totals_text, rows_text, part_text}

computing : Unit {0}
unfolding in_order right_in_10 left_aligned row_text totals_text rows_text digits
computing = tt

-- ---- triggers

abbrev item : Field → Mode → KeyItem
item field mode = record { field = field; mode = mode }

abbrev hist_by : List KeyItem → List Item → Option Var → Hist
hist_by keys values variable = record { event = names.Waking; keys = keys; values = values; sort = []; variable = variable; size = 2048; onmatch = None; filter = None }

abbrev by : SortBy → SortItem
by what = record { what = what; descending = false }

abbrev down_by : SortBy → SortItem
down_by what = record { what = what; descending = true }

-- a row without values
abbrev row : List Part → ℕ → Counted
row key hitcount = record { key = key; hitcount = hitcount; sums = 0 ∷ 0 ∷ 0 ∷ [] }

-- a row with one value
abbrev summed : List Part → ℕ → ℕ → Counted
summed key hitcount sum = record { key = key; hitcount = hitcount; sums = sum ∷ 0 ∷ 0 ∷ [] }

abbrev totals : ℕ → ℕ → ℕ → Totals
totals hits entries dropped = record { hits = hits; entries = entries; dropped = dropped }

-- ---- texts

one_key : rows_text (hist_by (item fields.Pid modes.Plain ∷ []) [] None) (row (Num (pos 42) ∷ []) 2 ∷ []) (totals 2 1 0)
    ≡ codes "{ pid:         42 } hitcount:          2\n\nTotals:\n    Hits: 2\n    Entries: 1\n    Dropped: 0\n"
unfolding computing
one_key = refl

no_rows : rows_text (hist_by (item fields.Pid modes.Plain ∷ []) [] None) [] (totals 0 0 0) ≡ codes "\nTotals:\n    Hits: 0\n    Entries: 0\n    Dropped: 0\n"
unfolding computing
no_rows = refl

equals_in_name : row_text (hist_by (item fields.Comm modes.Plain ∷ item fields.Pid modes.Plain ∷ []) [] None) (row (Text (codes "a pid=7 b") ∷ Num (pos 42) ∷ []) 1)
    ≡ codes "{ comm: a pid=7 b                                         , pid:         42 } hitcount:          1"
unfolding computing
equals_in_name = refl

powers : rows_text (hist_by (item fields.Prio modes.Log2 ∷ []) [] None)
    (in_order (by sorts.Hits ∷ []) (row (Log2 0 ∷ []) 2 ∷ row (Log2 1 ∷ []) 1 ∷ row (Log2 2 ∷ []) 1 ∷ row (Log2 64 ∷ []) 1 ∷ [])) (totals 5 4 0)
    ≡ codes "{ prio: ~ 2^1  } hitcount:          1\n{ prio: ~ 2^2  } hitcount:          1\n{ prio: ~ 2^64 } hitcount:          1\n{ prio: ~ 2^0  } hitcount:          2\n\nTotals:\n    Hits: 5\n    Entries: 4\n    Dropped: 0\n"
unfolding computing
powers = refl

buckets : rows_text (hist_by (item fields.Pid (modes.Buckets 32) ∷ []) [] None) (in_order (by sorts.Hits ∷ []) (row (Bucket 0 ∷ []) 5 ∷ row (Bucket 32 ∷ []) 1 ∷ [])) (totals 6 2 0)
    ≡ codes "{ pid: ~ 32-63 } hitcount:          1\n{ pid: ~ 0-31 } hitcount:          5\n\nTotals:\n    Hits: 6\n    Entries: 2\n    Dropped: 0\n"
unfolding computing
buckets = refl

last_bucket : part_text (modes.Buckets 10) (Bucket 18446744073709551610) ≡ codes "~ 18446744073709551610-18446744073709551615"
unfolding computing
last_bucket = refl

hexadecimal_with_sum : rows_text (hist_by (item fields.Pid modes.Hex ∷ []) (items.Num fields.Prio ∷ []) None)
    (in_order (down_by (sorts.Value 0) ∷ []) (summed (Num (pos 5) ∷ []) 1 120 ∷ summed (Num (pos 6) ∷ []) 2 240 ∷ [])) (totals 3 2 0)
    ≡ codes "{ pid: 6 } hitcount:          2  prio:        240\n{ pid: 5 } hitcount:          1  prio:        120\n\nTotals:\n    Hits: 3\n    Entries: 2\n    Dropped: 0\n"
unfolding computing
hexadecimal_with_sum = refl

hexadecimal_of_negative : part_text modes.Hex (Num (negsuc 0)) ≡ codes "ffffffffffffffff"
unfolding computing
hexadecimal_of_negative = refl

negative : part_text modes.Plain (Num (negsuc 0)) ≡ codes "18446744073709551615"
unfolding computing
negative = refl

saved_stamps : row_text (hist_by (item fields.Pid modes.Plain ∷ []) (items.Own ∷ []) (Some (vars.Saves (codes "ts0")))) (summed (Num (pos 42) ∷ []) 4294 18442589569023995706)
    ≡ codes "{ pid:         42 } hitcount:       4294  ts0: 18442589569023995706"
unfolding computing
saved_stamps = refl

latency : row_text (hist_by (item fields.NextPid modes.Plain ∷ []) (items.Own ∷ []) (Some (vars.Reads (codes "lat") (codes "ts0")))) (summed (Num (pos 42) ∷ []) 1 50)
    ≡ codes "{ next_pid:         42 } hitcount:          1  lat:         50"
unfolding computing
latency = refl

-- ---- order

equal_rows_by_key : in_order (by sorts.Hits ∷ []) (row (Num (pos 9) ∷ []) 1 ∷ row (Num (pos 7) ∷ []) 2 ∷ row (Num (pos 8) ∷ []) 1 ∷ row (Num (negsuc 0) ∷ []) 1 ∷ [])
    ≡ row (Num (negsuc 0) ∷ []) 1 ∷ row (Num (pos 8) ∷ []) 1 ∷ row (Num (pos 9) ∷ []) 1 ∷ row (Num (pos 7) ∷ []) 2 ∷ []
unfolding computing
equal_rows_by_key = refl

equal_rows_by_key_ascending : in_order (down_by sorts.Hits ∷ []) (row (Num (pos 9) ∷ []) 1 ∷ row (Num (pos 7) ∷ []) 2 ∷ row (Num (pos 8) ∷ []) 1 ∷ [])
    ≡ row (Num (pos 7) ∷ []) 2 ∷ row (Num (pos 8) ∷ []) 1 ∷ row (Num (pos 9) ∷ []) 1 ∷ []
unfolding computing
equal_rows_by_key_ascending = refl

missing_part_first : in_order (by (sorts.Key 1) ∷ []) (row (Num (pos 1) ∷ Num (negsuc 4) ∷ []) 1 ∷ row (Num (pos 2) ∷ []) 1 ∷ [])
    ≡ row (Num (pos 2) ∷ []) 1 ∷ row (Num (pos 1) ∷ Num (negsuc 4) ∷ []) 1 ∷ []
unfolding computing
missing_part_first = refl

second_item_decides : in_order (by sorts.Hits ∷ down_by (sorts.Key 0) ∷ []) (row (Num (pos 1) ∷ []) 3 ∷ row (Num (pos 2) ∷ []) 3 ∷ row (Num (pos 3) ∷ []) 2 ∷ [])
    ≡ row (Num (pos 3) ∷ []) 2 ∷ row (Num (pos 2) ∷ []) 3 ∷ row (Num (pos 1) ∷ []) 3 ∷ []
unfolding computing
second_item_decides = refl
