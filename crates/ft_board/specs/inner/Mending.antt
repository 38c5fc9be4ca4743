-- Tables of made events that are brought up to date: by what a repair of the shelves told of readings, or by what shelves keep of them.
use Rattle.std.specs.Prelude.{◌≡◌, ⊤, ℕ, false, List, Option, IfSome}
use Rattle.std.specs.Ordering.{nat_cmp, eq_by_cmp}
use Rattle.std.specs.FinMap as map
use Rattle.ft_hist.specs.Hist.{Hist}
use Rattle.ft_changes.specs.Findings.{Findings, Lead}
use Rattle.ft_changes.specs.declared.changed.ReadingChange.{ReadingChange}
use Rattle.ft_table.specs.Tabled.{Tabled}
use Rattle.ft_base.specs.Base.{Triggers}
use Rattle.ft_replay.specs.Merged.{Events, merged}
use Rattle.ft_made.specs.MadeTables.{IsMadeTable, found_in}
use Rattle.ft_made.specs.Updating.{CanUpdate, IsUpdated}
use Rattle.ft_board.specs.MadeShelves.{MadeTables, AreMadeBy}
use Rattle.ft_board.specs.declared.mend.Basis.{Basis}
use Rattle.ft_board.specs.declared.mend.Basis.TheVariants.{Changes, Shelves}
use Rattle.ft_board.specs.declared.mend.Mending.{Mending}
use Rattle.ft_board.specs.inner.Readings.{readings_on}

-- tables of made events are those of what readings found; if changes of readings are told, they lead from that to what readings find now
pub record CanMendTo (triggers : Triggers) (events : Events) (told : Option (List ReadingChange)) (now : Findings) (tables : MadeTables) : Type 0 where
  pub found : Findings
  pub made : AreMadeBy triggers events found tables
  pub lead : IfSome told (λ changes. Lead changes found now)

-- one table may change, and those of other ids stay
abbrev pub OtherTablesStay : ℕ → MadeTables → MadeTables → Type 0
OtherTablesStay id old new = (other : ℕ) → eq_by_cmp nat_cmp other id ≡ false → map.get new other ≡ map.get old other

-- the attached triggers
abbrev pub triggers_in : Mending → Triggers
triggers_in mending = mending.content.now.triggers

-- the held events
abbrev pub events_in : Mending → Events
events_in mending = merged mending.content.now.lanes

-- a trigger's table can be brought up to date: by changes if it is made of what readings found and they lead on from there, by shelves always
abbrev pub CanUpdateBy : Triggers → Events → Basis → Hist → Tabled → Type 0
CanUpdateBy triggers events (Changes changes) hist table = CanUpdate triggers events changes.now hist table
CanUpdateBy triggers events (Shelves tables) hist table = ⊤

-- it is brought up to date: it is made of what the changes lead to, or of what is kept of readings
abbrev pub UpdatesBy : Triggers → Events → Basis → Hist → Tabled → Tabled → Type 0
UpdatesBy triggers events (Changes changes) hist old new = IsUpdated triggers events changes.now hist old new
UpdatesBy triggers events (Shelves tables) hist old new = IsMadeTable triggers events (found_in (readings_on tables.now)) hist new

-- a trigger's table can be brought up to date, with the triggers, the events and the basis of a mending
abbrev pub CanUpdateTo : Mending → Hist → Tabled → Type 0
CanUpdateTo mending = CanUpdateBy (triggers_in mending) (events_in mending) mending.basis

-- it is brought up to date, with these
abbrev pub Updates : Mending → Hist → Tabled → Tabled → Type 0
Updates mending = UpdatesBy (triggers_in mending) (events_in mending) mending.basis
