-- The tables of the triggers that count made events, by what is kept of readings.
use Rattle.std.specs.Prelude.{◌≡◌, ℕ, List, Option, Some, None, option_and_then}
use Rattle.std.specs.Option.{option_map_or}
use Rattle.std.specs.FinMap as map
use Rattle.std.specs.FinMap.{FinMap}
use Rattle.ft_fields.specs.Traced.{Traced}
use Rattle.ft_fields.specs.Places.{pos_cmp}
use Rattle.ft_fields.specs.declared.pos.Pos.{Pos}
use Rattle.ft_fields.specs.declared.key.Part.{Part}
use Rattle.ft_hist.specs.Hist.{Hist}
use Rattle.ft_changes.specs.Findings.{Findings}
use Rattle.ft_hits.specs.declared.mark.Mark.{Mark}
use Rattle.ft_hits.specs.declared.spot.Spot.{Spot}
use Rattle.ft_table.specs.Growth.{with_hit}
use Rattle.ft_table.specs.OneKey.{without_hit}
use Rattle.ft_table.specs.Tabled.{Tabled}
use Rattle.ft_hist.specs.Triggers.{Triggers}
use Rattle.ft_replay.specs.declared.pair.Pair.{Pair}
use Rattle.ft_replay.specs.Found.{pairs_in}
use Rattle.ft_replay.specs.Hits.{pairs_of}
use Rattle.ft_replay.specs.Merged.{Events}
use Rattle.ft_made.specs.MadeEvents.{made_by}
use Rattle.ft_made.specs.MadeHits.{made_hit, values_of_made}

-- ---- the whole table

-- a table holds just what the events made of these readings add: it is the one of a trigger that counts them (kernel: histogram.rst, synthetic events)
pub record IsMadeTable (triggers : Triggers) (events : Events) (found : Findings) (hist : Hist) (table : Tabled) : Type 0 where
  pub size : table.size ≡ hist.size
  pub hits : (mark : Mark) → map.get table.hits mark ≡ values_of_made hist mark (made_by triggers events found mark.spot)

-- ---- readings as pairs

-- the pairs of each attached trigger are those of some readings, in merged order
abbrev pub AreInOrder : Triggers → (ℕ → List Pair) → Type 0
AreInOrder triggers pairs = (id : ℕ) (hist : Hist) → map.get triggers id ≡ Some hist → (readings : FinMap pos_cmp Pos) × (pairs id ≡ pairs_in readings)

-- the pairs of each attached trigger are those of these readings, in merged order
abbrev pub ArePairsOf : Triggers → (ℕ → List Pair) → (ℕ → FinMap pos_cmp Pos) → Type 0
ArePairsOf triggers pairs readings = (id : ℕ) (hist : Hist) → map.get triggers id ≡ Some hist → pairs id ≡ pairs_in (readings id)

-- the pairs of each attached trigger are those that replaying gives it
abbrev pub AreReplayed : Triggers → Events → (ℕ → List Pair) → Type 0
AreReplayed triggers events pairs = (id : ℕ) (hist : Hist) → map.get triggers id ≡ Some hist → pairs id ≡ pairs_of triggers events id

-- the place of the saving that each reading found
abbrev pub found_in : (ℕ → FinMap pos_cmp Pos) → Findings
found_in readings id pos = map.get (readings id) pos

-- ---- one made event

-- no hit stands at a spot
abbrev pub IsFreeAt : Spot → Tabled → Type 0
IsFreeAt spot table = (key : List Part) → map.get table.hits (record { spot = spot; key = key }) ≡ None

-- a trigger's table with what an event made at a spot adds, if one is made and is a hit (kernel: histogram.rst, synthetic events)
abbrev pub with_made : Hist → Spot → Option Traced → Tabled → Tabled
with_made hist spot made table =
    option_map_or (λ found. with_hit table (record { spot = spot; key = found.key }) found.values) (option_and_then (made_hit hist spot) made) table

-- a trigger's table without what an event made at a spot adds, if one is made and is a hit (kernel: histogram.rst, synthetic events)
abbrev pub without_made : Hist → Spot → Option Traced → Tabled → Tabled
without_made hist spot made table = option_map_or (λ found. without_hit table (record { spot = spot; key = found.key })) (option_and_then (made_hit hist spot) made) table

-- a table holds at a spot just what an event made there adds, or nothing if none is made
abbrev pub HoldsMade : Hist → Spot → Option Traced → Tabled → Type 0
HoldsMade hist spot made table = (key : List Part) → map.get table.hits (record { spot = spot; key = key }) ≡ values_of_made hist (record { spot = spot; key = key }) made

-- a table comes to hold at a spot what the event made there adds, or nothing if none is made, and stays as it was elsewhere
pub record ChangesMade (hist : Hist) (spot : Spot) (made : Option Traced) (before after : Tabled) : Type 0 where
  pub size : after.size ≡ before.size
  pub here : HoldsMade hist spot made after
  pub elsewhere : (mark : Mark) → (mark.spot ≡ spot → ⊥) → map.get after.hits mark ≡ map.get before.hits mark
