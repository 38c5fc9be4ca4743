-- What one trigger counts (kernel: histogram.rst, the `hist` file).
use Rattle.std.specs.Prelude.{ℕ, ◌+◌, Bool, ◌||◌, List, [], ◌∷◌, ◌++◌, Option, Some, None, nat_lt, map as list_map, if◌then◌else◌}
use Rattle.std.specs.List.{sum_by}
use Rattle.std.specs.FinMap as map
use Rattle.std.specs.FinMap.{FinMap}
use Rattle.ft_fields.specs.declared.pos.Pos.{Pos}
use Rattle.ft_hist.specs.declared.item.SortItem.{SortItem}
use Rattle.ft_fields.specs.declared.key.Part.{Part}
use Rattle.ft_fields.specs.Parts.{key_cmp}
use Rattle.ft_table.specs.Counted.{Counted}
use Rattle.ft_table.specs.declared.row.Totals.{Totals}
use Rattle.ft_table.specs.Rows.{counted_row, totals_of}
use Rattle.ft_table.specs.Sorting.{in_order}
use Rattle.ft_table.specs.Tabled.{Tabled, keys_in}
use Rattle.ft_replay.specs.declared.pair.Pair.{Pair}

-- a table: rows by key (kernel: histogram.rst, the `hist` file)
abbrev pub RowsByKey : Type 0
RowsByKey = FinMap key_cmp Counted

-- what a trigger has counted: its table, how many hits found no room, and the pairs that its readings made (kernel: histogram.rst, `Dropped`; keeping pairs is our own choice)
pub record Tally : Type 0 where
  pub table : RowsByKey
  pub dropped : ℕ
  pub pairs : List Pair

-- nothing counted yet (kernel: histogram.rst, hist triggers)
abbrev pub empty_tally : Tally
empty_tally = record { table = map.empty; dropped = 0; pairs = [] }

-- how a hit changes its key's row, if the key has one: by the place of the saving that it read, if it read
abbrev pub RowGrowth : Type 0
RowGrowth = Option Pos → Option Counted → Counted

-- a hit of the key is counted: the key is in the table, or there are fewer than `size` keys (kernel: histogram.rst, `size`)
abbrev pub has_place : ℕ → RowsByKey → List Part → Bool
has_place size table key = map.contains_key table key || nat_lt (map.len table) size

-- one hit of a key: counted if it has a place, else dropped (kernel: histogram.rst, `size` and `Dropped`)
unfoldable pub count : ℕ → List Part → (Option Counted → Counted) → Tally → Tally
count size key grow tally =
    if has_place size tally.table key
    then record tally { table = map.insert tally.table key (grow (map.get tally.table key)) }
    else record tally { dropped = tally.dropped + 1 }

-- a tally with the pair of a reading, if the hit read something
abbrev pub with_pair : Pos → Option Pos → Tally → Tally
with_pair at None tally = tally
with_pair at (Some saved) tally = record tally { pairs = tally.pairs ++ record { saved = saved; read = at } ∷ [] }

-- a hit at a place that read this, if it read: its pair stands, whether it is counted or dropped
abbrev pub tell : ℕ → RowGrowth → Pos → List Part → Option Pos → Tally → Tally
tell size growth at key saved tally = count size key (growth saved) (with_pair at saved tally)

-- ---- what is read off

-- the rows of a table, by the sort items (kernel: histogram.rst, `sort`)
abbrev pub rows_in : List SortItem → Tally → List Counted
rows_in sort tally = in_order sort (map.values tally.table)

-- its totals: the counted hits, the keys in the table, and the dropped hits (kernel: histogram.rst, `Hits`, `Entries` and `Dropped`)
abbrev pub totals_in : Tally → Totals
totals_in tally = record { hits = sum_by (λ row. row.hitcount) (map.values tally.table); entries = map.len tally.table; dropped = tally.dropped }

-- ---- the same from a map of hits

-- what a table's hits come to: a row for each key in it, and the hits of the others dropped (kernel: histogram.rst, `size` and `Dropped`)
unfoldable pub tally_of : Tabled → List Pair → Tally
tally_of table pairs =
    record { table = map.from_entries (list_map (λ key. (key, counted_row table.hits key)) (keys_in table)); dropped = (totals_of table).dropped; pairs = pairs }
