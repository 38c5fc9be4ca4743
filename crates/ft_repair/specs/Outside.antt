-- What is kept outside a family, as one trigger and those that read what it saves get new shelves.
use Rattle.std.specs.Prelude.{◌≡◌, ℕ, Bool, true, false, Option, Some, None, if◌then◌else◌}
use Rattle.std.specs.FinMap as map
use Rattle.ft_hist.specs.Hist.{Hist}
use Rattle.ft_lanes.specs.Held.{Lanes}
use Rattle.ft_kept.specs.Acts.{Acts, acts_of}
use Rattle.ft_kept.specs.Shelves.{Shelved, Shelves, IsNewShelf}
use Rattle.ft_base.specs.Base.{Triggers}
use Rattle.ft_base.specs.Reachable.{HasSavers}
use Rattle.ft_base.specs.Roles.{role_of}
use Rattle.ft_replay.specs.Merged.{merged}
use Rattle.ft_repair.specs.KeptFor.{AreKeptFor}

-- the acts of triggers at all held events, except those of some triggers
abbrev pub acts_outside : (ℕ → Bool) → Triggers → Lanes → Acts
acts_outside family triggers lanes at = if family at.trigger then None else acts_of triggers (merged lanes) at

-- a trigger has a shelf with nothing on it
abbrev pub HasNewShelf : Triggers → Hist → Option Shelved → Type 0
HasNewShelf triggers hist shelf = (its : Shelved) × ((shelf ≡ Some its) × IsNewShelf (role_of triggers hist.variable) hist.size its)

-- the attached triggers of a family have new shelves, and all others what they had
pub record AreRenewed (triggers : Triggers) (family : ℕ → Bool) (old new : Shelves) : Type 0 where
  pub stay : (id : ℕ) → family id ≡ false → map.get new id ≡ map.get old id
  pub none : (id : ℕ) → map.get triggers id ≡ None → map.get new id ≡ map.get old id
  pub fresh : (id : ℕ) (hist : Hist) → family id ≡ true → map.get triggers id ≡ Some hist → HasNewShelf triggers hist (map.get new id)

-- outside a family all is kept: once the family has new shelves, whatever it had, the shelves are kept for the acts of the other triggers
abbrev pub AreKeptOutside : (ℕ → Bool) → Triggers → Lanes → Shelves → Type 0
AreKeptOutside family triggers lanes shelves =
    HasSavers triggers → (new : Shelves) → AreRenewed triggers family shelves new → AreKeptFor triggers lanes (acts_outside family triggers lanes) new
