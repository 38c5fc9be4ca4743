-- The report that is made of the keys that were told of an event that comes or goes.
use Rattle.std.specs.Prelude.{◌≡◌, List, Option, Some}
use Rattle.std.specs.FinMap as map
use Rattle.ft_changes.specs.declared.changed.Changed.{Changed}
use Rattle.ft_kept.specs.Changes.{AreFew, HitsStayBut}
use Rattle.ft_kept.specs.Shelves.{Shelves, FormsStay, role_on}
use Rattle.ft_kept.specs.declared.changes.KeyChange.{KeyChange}
use Rattle.ft_kept.specs.Report.{report_of}
use Rattle.ft_base.specs.Base.{Base, Triggers}
use Rattle.ft_answers.specs.Reporting.{IsReport}
use Rattle.ft_repair.specs.KeptShelves.{AreKeptOf}

-- rows are the report of the keys that were told, by shelves that are kept
pub record IsReportBy (triggers : Triggers) (kept : Option Shelves) (told : Option (List KeyChange)) (rows : List Changed) : Type 0 where
  pub shelves : Shelves
  pub keys : List KeyChange
  pub there : kept ≡ Some shelves
  pub are_told : told ≡ Some keys
  pub are : rows ≡ report_of triggers shelves keys

-- if shelves are kept of a base and then, with the same forms, of another base with the same triggers, and the keys under which hits may have changed were told and are few, the report that the shelves kept afterwards give is a report of these two bases
abbrev pub RepairsReported : Type 0
RepairsReported = (old new : Base) (before behind : Shelves) (keys : List KeyChange) → new.triggers ≡ old.triggers → AreKeptOf old before → AreKeptOf new behind
    → FormsStay before behind → HitsStayBut keys before behind → AreFew (role_on before) (map.entries old.triggers) keys
    → IsReport old new (report_of old.triggers behind keys)
