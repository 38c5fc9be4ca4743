-- Which rows an edit of one event may have changed.
use Rattle.std.specs.Prelude.{◌≡◌, ◌≤◌, ◌+◌, ◌*◌, ⊤, ℕ, true, false, List, length, Option, Some, None, IfSome, Result, Ok, Err}
use Rattle.std.specs.List.{filter, IsDistinct}
use Rattle.std.specs.FinMap as map
use Rattle.ft_hist.specs.Hist.{Hist}
use Rattle.ft_fields.specs.declared.key.Part.{Part}
use Rattle.ft_pairs.specs.declared.role.Role.TheVariants.{Reads}
use Rattle.ft_table.specs.Counted.{Counted}
use Rattle.ft_changes.specs.declared.changed.Changed.{Changed}
use Rattle.ft_changes.specs.Reports.{same_row, is_reported, reported_of}
use Rattle.ft_base.specs.declared.refused.Refused.{Refused}
use Rattle.ft_base.specs.Base.{Triggers, Base}
use Rattle.ft_base.specs.OneTrigger.{reads_from}
use Rattle.ft_base.specs.Roles.{role_at}
use Rattle.ft_replay.specs.Merged.{merged}
use Rattle.ft_answers.specs.declared.done.Done.{Done}
use Rattle.ft_answers.specs.declared.edited.Edited.{Edited}
use Rattle.ft_answers.specs.Answers.{tally_at, tally_made}
use Rattle.ft_hist.specs.Made.{counts_made}
use Rattle.ft_answers.specs.Shown.{Shown}

-- what a trigger has counted under a key of the held events: its table's row, or none (kernel: histogram.rst, the `hist` file)
unfoldable pub row_in : Base → ℕ → List Part → Option Counted
row_in base id key = map.get (tally_at base.triggers (merged base.lanes) id).table key

-- what a trigger has counted under a key of the events that readings make (kernel: histogram.rst, synthetic events)
unfoldable pub made_row_in : Base → ℕ → List Part → Option Counted
made_row_in base id key = map.get (tally_made base.triggers (merged base.lanes) id).table key

-- how many attached triggers read what a saver saves (kernel: histogram.rst, inter-event hist triggers)
unfoldable pub readers_in : Triggers → ℕ → ℕ
readers_in triggers saver = length (filter (λ attached. reads_from saver (role_at triggers attached.0)) (map.entries triggers))

-- a report of the rows that an edit may have changed: none twice, each of an attached trigger that counts held events, all rows of these triggers that differ, and few of each trigger: at most 2 of one that reads nothing, and at most 4 of a reader and 2 more for each trigger that reads the same, itself among them
pub record IsReport (old new : Base) (report : List Changed) : Type 0 where
  pub once : IsDistinct same_row report
  pub held : (id : ℕ) (key : List Part) → is_reported report id key ≡ true → (hist : Hist) × ((map.get old.triggers id ≡ Some hist) × (counts_made hist ≡ false))
  pub all : (id : ℕ) (hist : Hist) → map.get old.triggers id ≡ Some hist → counts_made hist ≡ false → (key : List Part) → is_reported report id key ≡ false → row_in new id key ≡ row_in old id key
  pub two : (id : ℕ) → ((saver : ℕ) → role_at old.triggers id ≡ Reads saver → ⊥) → reported_of report id ≤ 2
  pub reader : (id saver : ℕ) → role_at old.triggers id ≡ Reads saver → reported_of report id ≤ 4 + 2 * readers_in old.triggers saver

-- the same of made events: no row twice, each of an attached trigger that counts them, and all rows of these triggers that differ
pub record IsMadeReport (old new : Base) (report : List Changed) : Type 0 where
  pub once : IsDistinct same_row report
  pub made : (id : ℕ) (key : List Part) → is_reported report id key ≡ true → (hist : Hist) × ((map.get old.triggers id ≡ Some hist) × (counts_made hist ≡ true))
  pub all : (id : ℕ) (hist : Hist) → map.get old.triggers id ≡ Some hist → counts_made hist ≡ true → (key : List Part) → is_reported report id key ≡ false → made_row_in new id key ≡ made_row_in old id key

-- if an accepted edit names rows of made events, they are a report of the base before it and after it; a board whose tables lack the edit names none, nor does one that keeps no tables
abbrev pub ReportsMade : Shown → Shown → Done Edited → Type 0
ReportsMade old new done = IfSome done.value.made (λ rows. IsMadeReport old.base new.base rows.items) × ((new.deferred ≡ true → done.value.made ≡ None) × (new.keeps ≡ false → done.value.made ≡ None))

-- if an accepted edit has a report, it is of the base before it and after it; a board whose tables lack the edit has none, nor has one that keeps no tables; the same holds of the rows of made events
abbrev pub Reports : Shown → Shown → Result (Done Edited) Refused → Type 0
Reports old new (Ok done) = (IfSome done.value.report (λ rows. IsReport old.base new.base rows.items) × (new.deferred ≡ true → done.value.report ≡ None) × (new.keeps ≡ false → done.value.report ≡ None)) × ReportsMade old new done
Reports old new (Err refused) = ⊤
