-- Events whose name some trigger is on: no other event is a hit.
use Rattle.std.specs.Prelude.{Bool, filter}
use Rattle.std.specs.List.{list_any}
use Rattle.std.specs.FinMap as map
use Rattle.ft_fields.specs.Traced.{Traced, name_of}
use Rattle.ft_fields.specs.declared.event.Name.{Name}
use Rattle.ft_fields.specs.declared.event.Name.TheVariants as kinds
use Rattle.ft_hist.specs.Hit.{same_name}
use Rattle.ft_replay.specs.declared.names.Names.{Names}
use Rattle.ft_base.specs.Base.{Triggers}
use Rattle.ft_replay.specs.Merged.{Events}

-- some attached trigger is on the events of a name (kernel: histogram.rst, hist triggers)
unfoldable pub is_on : Triggers → Name → Bool
is_on triggers name = list_any (λ attached. same_name attached.1.event name) (map.entries triggers)

-- some attached trigger is on the event's name (kernel: histogram.rst, hist triggers)
abbrev pub is_named : Triggers → Traced → Bool
is_named triggers event = is_on triggers (name_of event.body)

-- the events whose name some attached trigger is on
unfoldable pub named : Triggers → Events → Events
named triggers events = map.from_entries (filter (λ entry. is_named triggers entry.1) (map.entries events))

-- the events of some names
unfoldable pub events_on : (Name → Bool) → Events → Events
events_on names events = map.from_entries (filter (λ entry. names (name_of entry.1.body)) (map.entries events))

-- the name is one of these
abbrev pub has_name : Names → Name → Bool
has_name names kinds.Waking = names.waking
has_name names kinds.Wakeup = names.wakeup
has_name names kinds.WakeupNew = names.wakeup_new
has_name names kinds.Switch = names.switch
has_name names kinds.WakeupLatency = names.wakeup_latency
has_name names kinds.Other = names.other
