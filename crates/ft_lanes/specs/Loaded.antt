-- What a load makes of lanes, and the CPU that stands in its way.
use Rattle.std.specs.Prelude.{ℕ, ◌+◌, ◌==◌, List, length, Option, filter, fold, option_map}
use Rattle.std.specs.List.{enumerate_from, find}
use Rattle.std.specs.FinMap as map
use Rattle.ft_fields.specs.Traced.{Traced}
use Rattle.ft_lanes.specs.Held.{Lane, Lanes}

-- the lane that a load gives a CPU: its events in file order, numbered from 1
unfoldable pub lane_of : ℕ → List Traced → Lane
lane_of cpu events =
    let own = filter (λ e. e.cpu == cpu) events in
    record { events = map.from_entries (enumerate_from 1 own); next = length own + 1 }

-- the lanes, and one more for each CPU of the events
unfoldable pub with_lanes : Lanes → List Traced → Lanes
with_lanes lanes events = fold (λ m e. map.insert m e.cpu (lane_of e.cpu events)) lanes events

-- the CPU of the first event whose lane is held
unfoldable pub first_held : Lanes → List Traced → Option ℕ
first_held lanes events = option_map (λ e. e.cpu) (find (λ e. map.contains_key lanes e.cpu) events)
