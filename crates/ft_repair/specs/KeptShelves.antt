-- Shelves that are kept beside a base, so that no answer replays its events.
use Rattle.std.specs.Prelude.{◌≡◌, ℕ, Option, Some, None}
use Rattle.std.specs.FinMap as map
use Rattle.ft_hist.specs.Hist.{Hist}
use Rattle.ft_table.specs.Hits.{AreTraced}
use Rattle.ft_kept.specs.Acts.{acts_of}
use Rattle.ft_kept.specs.Entries.{IsKept}
use Rattle.ft_kept.specs.Shelves.{Shelved, Shelves, admits_on, kept_on}
use Rattle.ft_table.specs.Values.{values_by}
use Rattle.ft_base.specs.Base.{Base, Triggers}
use Rattle.ft_replay.specs.Merged.{Events, merged}
use Rattle.ft_base.specs.Roles.{role_of, role_at}

-- a shelf has the role and the size of a trigger, and only hits of events of the trace
pub record IsShelfOf (triggers : Triggers) (hist : Hist) (shelf : Shelved) : Type 0 where
  pub role : shelf.role ≡ role_of triggers hist.variable
  pub size : shelf.table.size ≡ hist.size
  pub traced : AreTraced shelf.table.hits

-- a trigger has its shelf, and without a trigger there is none
abbrev pub HasItsShelf : Triggers → Option Hist → Option Shelved → Type 0
HasItsShelf triggers None shelf = shelf ≡ None
HasItsShelf triggers (Some hist) shelf = (its : Shelved) × ((shelf ≡ Some its) × IsShelfOf triggers hist its)

-- each attached trigger has its shelf, and what the shelves keep is that of the triggers' acts at all events
pub record AreKept (triggers : Triggers) (events : Events) (shelves : Shelves) : Type 0 where
  pub each : (id : ℕ) → HasItsShelf triggers (map.get triggers id) (map.get shelves id)
  pub kept : IsKept (role_at triggers) (values_by triggers) (admits_on shelves) (acts_of triggers events) (kept_on shelves)

-- what holds of each attached trigger's shelf, if the shelves are kept of triggers and events
abbrev pub OnEachShelf : (Triggers → Events → ℕ → Hist → Shelved → Type 0) → Type 0
OnEachShelf Holds =
    (triggers : Triggers) (events : Events) (shelves : Shelves) → AreKept triggers events shelves → (id : ℕ) (hist : Hist) (shelf : Shelved)
    → map.get triggers id ≡ Some hist → map.get shelves id ≡ Some shelf → Holds triggers events id hist shelf

-- the shelves are kept of a base's triggers and of all its events
abbrev pub AreKeptOf : Base → Shelves → Type 0
AreKeptOf base shelves = AreKept base.triggers (merged base.lanes) shelves
