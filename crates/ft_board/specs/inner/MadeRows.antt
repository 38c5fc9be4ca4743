-- The rows of tables of made events that may differ as these are mended.
use Rattle.std.specs.Prelude.{◌≡◌, ◌++◌, ℕ, true, false, List, [], Some, if◌then◌else◌}
use Rattle.std.specs.List.{IsDistinct}
use Rattle.std.specs.FinMap as map
use Rattle.ft_hist.specs.Hist.{Hist}
use Rattle.ft_fields.specs.declared.key.Part.{Part}
use Rattle.ft_changes.specs.Findings.{Findings}
use Rattle.ft_changes.specs.Reports.{is_reported, same_row}
use Rattle.ft_changes.specs.Rivals.{rivals}
use Rattle.ft_changes.specs.declared.changed.Changed.{Changed}
use Rattle.ft_changes.specs.declared.changed.ReadingChange.{ReadingChange}
use Rattle.ft_table.specs.Rows.{row_at}
use Rattle.ft_table.specs.Tabled.{Tabled}
use Rattle.ft_kept.specs.Report.{rows_by}
use Rattle.ft_kept.specs.Touched.{each_once}
use Rattle.ft_base.specs.Base.{Triggers}
use Rattle.ft_replay.specs.Merged.{Events}
use Rattle.ft_made.specs.MadeTables.{IsMadeTable}
use Rattle.ft_made.specs.Updating.{changed_keys}
use Rattle.ft_hist.specs.Made.{counts_made}
use Rattle.ft_board.specs.MadeShelves.{MadeTables, made_on}

-- the keys of a trigger whose rows may differ: those on which changes of readings bear, each once, and their rivals in its table
abbrev pub keys_named : Triggers → Events → List ReadingChange → Tabled → Hist → List (List Part)
keys_named triggers events changes table hist = let keys = each_once (changed_keys triggers events hist changes) in keys ++ rivals table keys

-- those keys of a trigger that counts made events, by the tables that are kept; of one that counts held ones none are told
abbrev pub keys_counted : Triggers → Events → List ReadingChange → MadeTables → ℕ × Hist → List (List Part)
keys_counted triggers events changes made t = if counts_made t.1 then keys_named triggers events changes (made_on made t.0 t.1) t.1 else []

-- the rows of all attached triggers that may differ, in order of id
unfoldable pub updated_rows : Triggers → Events → List ReadingChange → MadeTables → List Changed
updated_rows triggers events changes made = rows_by (keys_counted triggers events changes made) triggers

-- rows include each one that differs between these tables and those of what readings find; each is of an attached trigger that counts made events, and none is there twice
pub record AreUpdatedRows (triggers : Triggers) (events : Events) (now : Findings) (made : MadeTables) (rows : List Changed) : Type 0 where
  pub once : IsDistinct same_row rows
  pub counted : (id : ℕ) (key : List Part) → is_reported rows id key ≡ true → (hist : Hist) × ((map.get triggers id ≡ Some hist) × (counts_made hist ≡ true))
  pub all : (id : ℕ) (hist : Hist) → map.get triggers id ≡ Some hist → counts_made hist ≡ true → (after : Tabled) → IsMadeTable triggers events now hist after
      → (key : List Part) → is_reported rows id key ≡ false → row_at after key ≡ row_at (made_on made id hist) key
