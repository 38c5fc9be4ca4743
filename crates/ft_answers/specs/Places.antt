-- Where held events stand.
use Rattle.std.specs.Prelude.{ℕ, ◌&&◌, List, [], nat_le, filter, map as list_map}
use Rattle.std.specs.Option.{option_map_or}
use Rattle.std.specs.Map.{keys_of}
use Rattle.std.specs.FinMap as map
use Rattle.ft_fields.specs.Traced.{name_of}
use Rattle.ft_fields.specs.declared.event.Name.{Name}
use Rattle.ft_fields.specs.declared.pos.Pos.{Pos}
use Rattle.ft_filter.specs.Holds.{holds}
use Rattle.ft_filter.specs.Tree.{Tree}
use Rattle.ft_hist.specs.Hit.{same_name}
use Rattle.ft_lanes.specs.Held.{Lanes}
use Rattle.ft_replay.specs.Merged.{merged, place_of}

-- the places of all held events, in merged order
abbrev pub places : Lanes → List Pos
places lanes = map.keys (merged lanes)

-- the places of a lane's events from a line on, by line; none if the CPU has no lane
abbrev pub lane_places : Lanes → ℕ → ℕ → List Pos
lane_places lanes cpu line =
    option_map_or (λ lane. list_map (place_of cpu) (filter (λ entry. nat_le line entry.0) (map.entries lane.events))) (map.get lanes cpu) []

-- the places of the events that have the name and pass the filter, in merged order
abbrev pub matching_places : Lanes → Name → Tree → List Pos
matching_places lanes name tree =
    keys_of (filter (λ entry. same_name name (name_of entry.1.body) && holds entry.1 tree) (map.entries (merged lanes)))
