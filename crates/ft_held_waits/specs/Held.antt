-- The dispatches of held events.
use Rattle.std.specs.Prelude.{List, Option, option_map, filter_map, reverse}
use Rattle.std.specs.FinMap as map
use Rattle.ft_fields.specs.Traced.{Traced}
use Rattle.ft_fields.specs.declared.pos.Pos.{Pos}
use Rattle.ft_lanes.specs.Held.{Lanes}
use Rattle.ft_replay.specs.Merged.{Events, merged}
use Rattle.ft_dispatch.specs.Acts.{Act, act_of}
use Rattle.ft_dispatch.specs.Dispatches.{dispatches}
use Rattle.ft_dispatch.specs.declared.dispatch.Dispatch.{Dispatch}

-- what an event says of who runs, at the event's place, if it says anything
abbrev pub placed_act : Pos × Traced → Option (Pos × Act)
placed_act entry = option_map (λ act. (entry.0, act)) (act_of entry.1.pid entry.1.body)

-- the acts of events that follow in order, newest first
abbrev pub acts_of_entries : List (Pos × Traced) → List (Pos × Act)
acts_of_entries entries = reverse (filter_map placed_act entries)

-- the acts of events in merged order, newest first
abbrev pub acts_of_events : Events → List (Pos × Act)
acts_of_events events = acts_of_entries (map.entries events)

-- the dispatches of events in merged order, the oldest first
abbrev pub dispatches_of_events : Events → List Dispatch
dispatches_of_events events = dispatches (acts_of_events events)

-- the dispatches of held events
abbrev pub dispatches_held : Lanes → List Dispatch
dispatches_held lanes = dispatches_of_events (merged lanes)
