-- The report of one event: the rows that may differ with it and without it.
use Rattle.std.specs.Prelude.{ℕ, List, [], Option, map as list_map, option_and_then, if◌then◌else◌}
use Rattle.std.specs.List.{flat_map}
use Rattle.std.specs.FinMap as map
use Rattle.ft_hist.specs.Hist.{Hist}
use Rattle.ft_hist.specs.Triggers.{Triggers}
pub use Rattle.ft_hist.specs.Made.{counts_made}
use Rattle.ft_fields.specs.declared.key.Part.{Part}
use Rattle.ft_table.specs.Counted.{Counted}
use Rattle.ft_table.specs.Rows.{row_at}
use Rattle.ft_shelves.specs.Shelves.{Shelves}
use Rattle.ft_kept.specs.declared.changes.KeyChange.{KeyChange}
use Rattle.ft_changes.specs.declared.changed.Changed.{Changed}
use Rattle.ft_kept.specs.Touched.{named_keys}

-- a trigger's row of a key, if it has one (kernel: histogram.rst, the `hist` file)
abbrev pub row_on : Shelves → ℕ → List Part → Option Counted
row_on shelves id key = option_and_then (λ shelf. row_at shelf.table key) (map.get shelves id)

-- the rows of some keys of a trigger
abbrev pub rows_at : ℕ → List (List Part) → List Changed
rows_at id keys = list_map (λ key. record { id = id; key = key }) keys

-- the rows of all attached triggers, by the keys of each, in order of id
abbrev pub rows_by : (ℕ × Hist → List (List Part)) → Triggers → List Changed
rows_by keys triggers = flat_map (λ t. rows_at t.0 (keys t)) (map.entries triggers)

-- the keys of an attached trigger whose rows may differ; of one that counts made events none are reported
abbrev pub keys_reported : Shelves → List KeyChange → ℕ × Hist → List (List Part)
keys_reported shelves keys t = if counts_made t.1 then [] else named_keys shelves keys t.0

-- the rows that may differ of all attached triggers that count held events, in order of id
unfoldable pub report_of : Triggers → Shelves → List KeyChange → List Changed
report_of triggers shelves keys = rows_by (keys_reported shelves keys) triggers
