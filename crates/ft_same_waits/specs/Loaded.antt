-- The lanes that a load makes of events.
use Rattle.std.specs.Prelude.{ℕ, List, reverse}
use Rattle.std.specs.FinMap as map
use Rattle.ft_fields.specs.Traced.{Traced}
use Rattle.ft_lanes.specs.Held.{Lanes}
use Rattle.ft_lanes.specs.Loaded.{with_lanes}
use Rattle.ft_waits.specs.Reading.{history, events_of}

-- the lanes of events that are loaded in file order, if nothing is held; the events stand newest first
abbrev pub loaded : List Traced → Lanes
loaded events = with_lanes map.empty (reverse events)

-- the lanes of a trace text that is loaded, if nothing is held; a line that can't be read has no event
abbrev pub loaded_text : List ℕ → Lanes
loaded_text text = loaded (events_of (history text))
