-- All hits of a key at once.
use Rattle.std.specs.Prelude.{◌≡◌, ℤ, List, None}
use Rattle.std.specs.FinMap as map
use Rattle.ft_fields.specs.declared.key.Part.{Part}
use Rattle.ft_hits.specs.declared.spot.Spot.{Spot}
use Rattle.ft_hits.specs.Spots.{spot_cmp}
use Rattle.ft_hits.specs.Hits.{Hits}
use Rattle.ft_table.specs.OneKey.{AreSameBut}
use Rattle.ft_table.specs.Tabled.{Tabled}

-- no hit of a key stands there
abbrev pub HasNone : List Part → Hits → Type 0
HasNone key hits = (spot : Spot) → map.get hits (record { spot = spot; key = key }) ≡ None

-- a key has the hits of a list, of several at one spot the first, and all other hits and the size stay
pub record TakesRun (key : List Part) (run : List (Spot × List ℤ)) (old new : Tabled) : Type 0 where
  pub size : new.size ≡ old.size
  pub here : (spot : Spot) → map.get new.hits (record { spot = spot; key = key }) ≡ map.get (map.from_entries {R = spot_cmp} run) spot
  pub others : AreSameBut key old.hits new.hits
