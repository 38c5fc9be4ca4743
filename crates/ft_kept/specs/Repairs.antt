-- What a repair of what is kept makes right.
use Rattle.std.specs.Prelude.{◌≡◌, ℕ, true, Some, is_some}
use Rattle.std.specs.FinMap as map
use Rattle.ft_fields.specs.Traced.{Traced}
use Rattle.ft_fields.specs.declared.pos.Pos.{Pos}
use Rattle.ft_hist.specs.Triggers.{Triggers}
use Rattle.ft_lanes.specs.Held.{Lanes, event_at}
use Rattle.ft_pairs.specs.declared.role.Role.TheVariants.{Reads}
use Rattle.ft_shelves.specs.Shelves.{Shelves, role_on}

-- each attached trigger has a shelf, each shelf its trigger, and each reader's saver a shelf
pub record AreShelved (triggers : Triggers) (shelves : Shelves) : Type 0 where
  pub each : (id : ℕ) → is_some (map.get shelves id) ≡ is_some (map.get triggers id)
  pub savers : (id saver : ℕ) → role_on shelves id ≡ Reads saver → is_some (map.get shelves saver) ≡ true

-- an event is held at a place, with the place's stamp
abbrev pub IsHeldAt : Lanes → Pos → Traced → Type 0
IsHeldAt lanes pos event = (event_at lanes pos.cpu pos.line ≡ Some event) × (event.stamp ≡ pos.stamp)
