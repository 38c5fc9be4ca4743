-- The names of events (kernel: events.rst, the events of `sched`).
use Rattle.std.specs.Prelude.{ℕ, Bool, true, false, List, [], ◌∷◌, Option, Some, None, codes}
use Rattle.std.specs.List.{find}
use Rattle.std.specs.Option.{option_map_or}
use Rattle.std.specs.Str.{bytes_eq}
use Rattle.ft_fields.specs.declared.event.Name.{Name}
use Rattle.ft_fields.specs.declared.event.Name.TheVariants as names

-- how the kernel names the event, if it has a name (kernel: events.rst, the events of `sched`; histogram.rst, wakeup_latency)
abbrev pub name_text : Name → Option (List ℕ)
name_text names.Waking = Some (codes "sched_waking")
name_text names.Wakeup = Some (codes "sched_wakeup")
name_text names.WakeupNew = Some (codes "sched_wakeup_new")
name_text names.Switch = Some (codes "sched_switch")
name_text names.WakeupLatency = Some (codes "wakeup_latency")
name_text names.Other = None

-- the events that have a name (kernel: events.rst, the events of `sched`; histogram.rst, wakeup_latency)
abbrev pub all_names : List Name
all_names = names.Waking ∷ names.Wakeup ∷ names.WakeupNew ∷ names.Switch ∷ names.WakeupLatency ∷ []

-- whether lines of a trace name it: it is one of the four that the kernel traces, and not the one that triggers make (kernel: events.rst, the events of `sched`)
abbrev pub is_traced : Name → Bool
is_traced names.Waking = true
is_traced names.Wakeup = true
is_traced names.WakeupNew = true
is_traced names.Switch = true
is_traced names.WakeupLatency = false
is_traced names.Other = false

-- whether the text is the event's name
abbrev pub is_called : List ℕ → Name → Bool
is_called text name = option_map_or (λ own. bytes_eq own text) (name_text name) false

-- the event that has the text as its name
abbrev pub name_called : List ℕ → Option Name
name_called text = find (is_called text) all_names
