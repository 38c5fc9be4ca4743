-- Events that are left out: those of a name that pass a filter, or all of the name. They say nothing of who runs; all else of a text counts them.
use Rattle.std.specs.Prelude.{◌&&◌, Bool, true, false, List, Option, None, option_map}
use Rattle.std.specs.List.{count_by, list_any}
use Rattle.ft_fields.specs.Traced.{Traced, name_of}
use Rattle.ft_hist.specs.Hit.{same_name, passes_filter}
use Rattle.ft_dispatch.specs.Acts.{Act, act_of}
use Rattle.ft_waits.specs.declared.left_out.Without.{Without}
use Rattle.ft_waits.specs.declared.left_out.LeftOut.{LeftOut}

-- whether an event has the name
abbrev pub has_name : Without → Traced → Bool
has_name without event = same_name without.name (name_of event.body)

-- whether an event is left out by this: it has the name, and passes the filter, if there is one (kernel: events.rst, event filtering)
abbrev pub leaves_out : Without → Traced → Bool
leaves_out without event = has_name without event && passes_filter (option_map (λ c. c.tree) without.filter) event

-- whether it is left out by one of these
abbrev pub is_left_out : List Without → Traced → Bool
is_left_out all event = list_any (λ without. leaves_out without event) all

-- what is said by an event, unless it is left out
abbrev pub act_unless : Bool → Option Act → Option Act
act_unless true act = None
act_unless false act = act

-- what an event says of who runs, unless it is left out by one of these
abbrev pub act_without : List Without → Traced → Option Act
act_without all event = act_unless (is_left_out all event) (act_of event.pid event.body)

-- how many events have the name, and how many of them are left out by this
abbrev pub left_out_of : List Traced → Without → LeftOut
left_out_of events without = record { without = without; events = count_by (has_name without) events; left_out = count_by (leaves_out without) events }
