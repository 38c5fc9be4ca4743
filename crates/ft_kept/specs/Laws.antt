-- What the law says: that the report of an event has each row that differs, none twice, and few of each trigger.
use Rattle.std.specs.Prelude.{◌≡◌, ◌+◌, ◌*◌, ◌≤◌, ℕ, false, List, Some, length}
use Rattle.std.specs.List.{filter, IsDistinct}
use Rattle.std.specs.FinMap as map
use Rattle.ft_hist.specs.Hist.{Hist}
use Rattle.ft_hist.specs.Made.{counts_made}
use Rattle.ft_hist.specs.Triggers.{Triggers}
use Rattle.ft_fields.specs.declared.key.Part.{Part}
use Rattle.ft_pairs.specs.declared.role.Role.{Role}
use Rattle.ft_pairs.specs.declared.role.Role.TheVariants.{Reads}
use Rattle.ft_changes.specs.Reports.{same_row, is_reported, reported_of}
use Rattle.ft_kept.specs.Changes.{AreFew, HitsStayBut, is_reader_of}
use Rattle.ft_shelves.specs.Shelves.{Shelves, FormsStay, role_on}
use Rattle.ft_kept.specs.declared.changes.KeyChange.{KeyChange}
use Rattle.ft_kept.specs.Report.{row_on, report_of}

-- no row is reported twice
abbrev pub ReportedOnce : Type 0
ReportedOnce = (triggers : Triggers) (shelves : Shelves) (keys : List KeyChange) → IsDistinct same_row (report_of triggers shelves keys)

-- if hits stay, except under the keys that are told, a row of an attached trigger that counts held events stays, if it isn't reported by what is kept afterwards (kernel: histogram.rst, the `hist` file)
abbrev pub OthersStay : Type 0
OthersStay = (triggers : Triggers) (keys : List KeyChange) (old new : Shelves) → FormsStay old new → HitsStayBut keys old new
    → (id : ℕ) (hist : Hist) (key : List Part) → map.get triggers id ≡ Some hist → counts_made hist ≡ false → is_reported (report_of triggers new keys) id key ≡ false
    → row_on new id key ≡ row_on old id key

-- if few keys are told, at most two rows are reported of a trigger that reads nothing
abbrev pub TwoReported : Type 0
TwoReported = (triggers : Triggers) (shelves : Shelves) (keys : List KeyChange) → AreFew (role_on shelves) (map.entries triggers) keys
    → (id : ℕ) → ((saver : ℕ) → role_on shelves id ≡ Reads saver → ⊥) → reported_of (report_of triggers shelves keys) id ≤ 2

-- how many attached triggers read what a saver saves
unfoldable pub readers_of : (ℕ → Role) → Triggers → ℕ → ℕ
readers_of role triggers saver = length (filter (λ t. is_reader_of saver (role t.0)) (map.entries triggers))

-- and of a reader at most four, and two for each trigger that reads what its saver saves, itself among them
abbrev pub ReaderReported : Type 0
ReaderReported = (triggers : Triggers) (shelves : Shelves) (keys : List KeyChange) → AreFew (role_on shelves) (map.entries triggers) keys
    → (id saver : ℕ) → role_on shelves id ≡ Reads saver → reported_of (report_of triggers shelves keys) id ≤ 4 + 2 * readers_of (role_on shelves) triggers saver
