-- The merged order: all held events by place.
use Rattle.std.specs.Prelude.{ℕ, List, Option, Some, None, ◌==◌, if◌then◌else◌, option_and_then, map as list_map, fold}
use Rattle.std.specs.List.{flat_map}
use Rattle.std.specs.FinMap as map
use Rattle.std.specs.FinMap.{FinMap}
use Rattle.ft_fields.specs.Traced.{Traced}
use Rattle.ft_fields.specs.Places.{pos_cmp}
use Rattle.ft_fields.specs.declared.pos.Pos.{Pos}
use Rattle.ft_lanes.specs.Held.{Lane, Lanes, event_at}

-- events by place, and so in merged order
abbrev pub Events : Type 0
Events = FinMap pos_cmp Traced

-- the place of a CPU's line with this event
abbrev pub place_of : ℕ → ℕ × Traced → Pos
place_of cpu entry = record { stamp = entry.1.stamp; cpu = cpu; line = entry.0 }

-- a lane's events, each at its place
abbrev pub placed : ℕ × Lane → List (Pos × Traced)
placed lane = list_map (λ entry. (place_of lane.0 entry, entry.1)) (map.entries lane.1.events)

-- the merged events with one more at its place
abbrev pub merged_with : Events → Pos × Traced → Events
merged_with events entry = map.insert events entry.0 entry.1

-- all held events by place
unfoldable pub merged : Lanes → Events
merged lanes = fold merged_with map.empty (flat_map placed (map.entries lanes))

-- the merged events with those of one more lane
abbrev pub merged_with_lane : Events → ℕ × Lane → Events
merged_with_lane events lane = fold merged_with events (placed lane)

-- the event held at a place: on its lane's line, with its stamp
abbrev pub held_at : Lanes → Pos → Option Traced
held_at lanes pos = option_and_then (λ e. if e.stamp == pos.stamp then Some e else None) (event_at lanes pos.cpu pos.line)
