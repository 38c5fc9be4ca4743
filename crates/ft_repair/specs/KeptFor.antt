-- What is kept for an input: all acts of all triggers, or those of some at some events.
use Rattle.std.specs.Prelude.{ℕ}
use Rattle.std.specs.FinMap as map
use Rattle.ft_kept.specs.Acts.{Acts}
use Rattle.ft_kept.specs.Shelves.{Shelves}
use Rattle.ft_kept.specs.Views.{AreViewsOf}
use Rattle.ft_lanes.specs.Held.{Lanes}
use Rattle.ft_base.specs.Base.{Triggers}
use Rattle.ft_repair.specs.KeptShelves.{HasItsShelf}

-- each trigger has its shelf, and the shelves are views of this input
pub record AreKeptFor (triggers : Triggers) (lanes : Lanes) (input : Acts) (shelves : Shelves) : Type 0 where
  pub each : (id : ℕ) → HasItsShelf triggers (map.get triggers id) (map.get shelves id)
  pub views : AreViewsOf triggers lanes input shelves
