-- What is kept while one trigger joins the others or leaves them.
use Rattle.std.specs.Prelude.{◌≡◌, ℕ}
use Rattle.std.specs.FinMap as map
use Rattle.ft_kept.specs.Shelves.{Shelves}
use Rattle.ft_base.specs.Base.{Base}
use Rattle.ft_base.specs.OneTrigger.{GetsFilter, is_in_family}
use Rattle.ft_replay.specs.Merged.{merged}
use Rattle.ft_repair.specs.KeptShelves.{AreKept}
use Rattle.ft_repair.specs.Outside.{AreKeptOutside}

-- the shelves are kept of all of a base's triggers but one, and of all its events
abbrev pub AreKeptBut : ℕ → Base → Shelves → Type 0
AreKeptBut id base shelves = AreKept (map.remove base.triggers id) (merged base.lanes) shelves

-- whatever filter a trigger gets, the shelves outside its family are kept
abbrev pub AwaitFilter : ℕ → Base → Shelves → Type 0
AwaitFilter id base shelves = (new : Base) → GetsFilter id base new → AreKeptOutside (is_in_family new.triggers id) new.triggers new.lanes shelves

-- all shelves except one trigger's stay as they are
abbrev pub OtherShelvesStay : ℕ → Shelves → Shelves → Type 0
OtherShelvesStay id old new = (other : ℕ) → (other ≡ id → ⊥) → map.get new other ≡ map.get old other
