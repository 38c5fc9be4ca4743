-- What an edit of one event makes of lanes.
use Rattle.std.specs.Prelude.{ℕ, ◌+◌, unwrap_or}
use Rattle.std.specs.Option.{option_map_or}
use Rattle.std.specs.FinMap as map
use Rattle.ft_fields.specs.Traced.{Traced}
use Rattle.ft_lanes.specs.Held.{Lane, Lanes}

-- a lane without events: its first line is 1
abbrev pub new_lane : Lane
new_lane = record { events = map.empty; next = 1 }

-- the lane of a CPU, or a new one
abbrev pub lane_or_new : Lanes → ℕ → Lane
lane_or_new lanes cpu = unwrap_or (map.get lanes cpu) new_lane

-- a lane with one more event, at its next number
abbrev pub lane_with : Lane → Traced → Lane
lane_with lane event = record { events = map.insert lane.events lane.next event; next = lane.next + 1 }

-- the lanes with one more event, in the lane of its CPU
abbrev pub lanes_with : Lanes → Traced → Lanes
lanes_with lanes event = map.insert lanes event.cpu (lane_with (unwrap_or (map.get lanes event.cpu) new_lane) event)

-- a lane without the event of a line; its next number stays
abbrev pub lane_without : Lane → ℕ → Lane
lane_without lane line = record { events = map.remove lane.events line; next = lane.next }

-- the lanes without the event of a CPU's line
abbrev pub lanes_without : Lanes → ℕ → ℕ → Lanes
lanes_without lanes cpu line = option_map_or (λ lane. map.insert lanes cpu (lane_without lane line)) (map.get lanes cpu) lanes
