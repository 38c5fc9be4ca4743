-- Which triggers bear on the events that triggers make of their readings.
use Rattle.std.specs.Prelude.{◌≡◌, ◌&&◌, ℕ, Bool, true, false, Some, is_some}
use Rattle.std.specs.FinMap as map
use Rattle.ft_hist.specs.Hist.{Hist}
use Rattle.ft_hist.specs.Made.{counts_made}
use Rattle.ft_hits.specs.declared.spot.Spot.{Spot}
use Rattle.ft_kept.specs.Shelves.{Shelves}
use Rattle.ft_pairs.specs.declared.role.Role.{Role}
use Rattle.ft_pairs.specs.declared.role.Role.TheVariants.{Plain, Saves, Reads}
use Rattle.ft_base.specs.Base.{Base, Triggers}
use Rattle.ft_base.specs.OneTrigger.{GetsFilter, IsUnread, is_in_family}
use Rattle.ft_base.specs.Roles.{is_reader, role_at, role_of}
use Rattle.ft_replay.specs.Merged.{Events}
use Rattle.ft_made.specs.MadeEvents.{made_at}
use Rattle.ft_repair.specs.KeptShelves.{AreKept}
use Rattle.ft_repair.specs.Staying.{IsReadAlike}

-- a trigger makes events of its readings (kernel: histogram.rst, the `onmatch` handler)
abbrev pub makes : Hist → Bool
makes hist = is_some hist.onmatch && is_reader hist.variable

-- the trigger with an id saves what one with this role reads, or reads it too, and so unsets it (kernel: histogram.rst, inter-event hist triggers)
abbrev pub shares_read : Triggers → ℕ → Role → Bool
shares_read triggers id Plain = false
shares_read triggers id Saves = false
shares_read triggers id (Reads saver) = is_in_family triggers saver id

-- a trigger makes events of a variable that the one with an id saves or reads
abbrev pub makes_with : Triggers → ℕ → Hist → Bool
makes_with triggers id hist = is_some hist.onmatch && shares_read triggers id (role_of triggers hist.variable)

-- the trigger with an id makes no events, and saves and reads nothing of which another makes any
abbrev pub LeavesMakers : Triggers → ℕ → Type 0
LeavesMakers triggers id = (maker : ℕ) (hist : Hist) → map.get triggers maker ≡ Some hist → makes_with triggers id hist ≡ false

-- nor does it count such events
abbrev pub LeavesMade : Triggers → ℕ → Type 0
LeavesMade triggers id = LeavesMakers triggers id × ((hist : Hist) → map.get triggers id ≡ Some hist → counts_made hist ≡ false)

-- the same triggers make events; the saver of what one of them reads stays, and so do those that read it
pub record MakersStay (triggers others : Triggers) : Type 0 where
  pub stay : (id : ℕ) (hist : Hist) → map.get triggers id ≡ Some hist → makes hist ≡ true → map.get others id ≡ Some hist
  pub come : (id : ℕ) (hist : Hist) → map.get others id ≡ Some hist → makes hist ≡ true → map.get triggers id ≡ Some hist
  pub alike : (id : ℕ) (hist : Hist) → map.get triggers id ≡ Some hist → makes hist ≡ true → (saver : ℕ) → role_at triggers id ≡ Reads saver → IsReadAlike triggers others saver

-- if they stay, and shelves are kept of the triggers before and after, the same events are made
abbrev pub MadeStay : Type 0
MadeStay = (triggers others : Triggers) (events : Events) (old new : Shelves) → AreKept triggers events old → AreKept others events new → MakersStay triggers others
    → (spot : Spot) → made_at others events spot ≡ made_at triggers events spot

-- they stay when a trigger goes that leaves them alone and that no other reads
abbrev pub StayWithout : Type 0
StayWithout = (triggers : Triggers) (id : ℕ) → IsUnread triggers id → LeavesMakers triggers id → MakersStay triggers (map.remove triggers id)

-- they stay when one that leaves them alone gets another filter, if that doesn't change whether it makes events
abbrev pub StayByFilter : Type 0
StayByFilter = (id : ℕ) (old new : Base) (gets : GetsFilter id old new) → makes gets.hist ≡ makes gets.was → LeavesMakers new.triggers id → MakersStay old.triggers new.triggers
