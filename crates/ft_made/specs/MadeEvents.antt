-- The events that are made in a whole replay, by what its readings find.
use Rattle.std.specs.Prelude.{ℕ, List, Option, option_map, option_and_then, filter_map, map as list_map}
use Rattle.std.specs.List.{flat_map}
use Rattle.std.specs.FinMap as map
use Rattle.std.specs.FinMap.{FinMap}
use Rattle.ft_fields.specs.Traced.{Traced}
use Rattle.ft_fields.specs.declared.pos.Pos.{Pos}
use Rattle.ft_hist.specs.Made.{made_of}
use Rattle.ft_hits.specs.declared.spot.Spot.{Spot}
use Rattle.ft_table.specs.Spots.{spot_cmp}
use Rattle.ft_hist.specs.Triggers.{Triggers}
use Rattle.ft_replay.specs.Merged.{Events}
use Rattle.ft_replay.specs.Found.{saving_found}

-- made events by spot
abbrev pub Made : Type 0
Made = FinMap spot_cmp Traced

-- the event that is made at a spot if readings find these savings, by trigger and place (kernel: histogram.rst, `onmatch`)
abbrev pub made_by : Triggers → Events → (ℕ → Pos → Option Pos) → Spot → Option Traced
made_by triggers events found spot =
    option_and_then (λ event. option_and_then (λ hist. option_and_then (made_of hist spot.pos event) (found spot.maker spot.pos)) (map.get triggers spot.maker)) (map.get events spot.pos)

-- the event that is made at a spot, by what readings find as the events are replayed (kernel: histogram.rst, `onmatch`)
unfoldable pub made_at : Triggers → Events → Spot → Option Traced
made_at triggers events spot = made_by triggers events (saving_found triggers events) spot

-- a spot with the event that is made there, if one is
abbrev pub made_there : Triggers → Events → Spot → Option (Spot × Traced)
made_there triggers events spot = option_map (λ made. (spot, made)) (made_at triggers events spot)

-- the spots at one event, in order of the triggers' ids
abbrev pub spots_at : Triggers → Pos × Traced → List Spot
spots_at triggers entry = list_map (λ attached. record { pos = entry.0; maker = attached.0 }) (map.entries triggers)

-- all spots, in merged order of the events
unfoldable pub spots : Triggers → Events → List Spot
spots triggers events = flat_map (spots_at triggers) (map.entries events)

-- all made events, in order of their spots
unfoldable pub made_list : Triggers → Events → List (Spot × Traced)
made_list triggers events = filter_map (made_there triggers events) (spots triggers events)

-- the made events by spot
unfoldable pub made_events : Triggers → Events → Made
made_events triggers events = map.from_entries (made_list triggers events)
