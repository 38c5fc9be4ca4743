-- What a trigger counts an event under (kernel: histogram.rst, hist triggers).
use Rattle.std.specs.Prelude.{◌≡◌, ℕ, Bool, true, false, ◌&&◌, List, [], ◌∷◌, Option, Some, None, option_map, if◌then◌else◌}
use Rattle.std.specs.Option.{option_and_then, option_map_or}
use Rattle.std.specs.FinMap as map
use Rattle.ft_fields.specs.declared.event.Name.{Name}
use Rattle.ft_fields.specs.declared.event.Name.TheVariants as names
use Rattle.ft_fields.specs.Traced.{Traced, name_of}
use Rattle.ft_fields.specs.Fields.{field_of}
use Rattle.ft_filter.specs.Tree.{Tree}
use Rattle.ft_filter.specs.Holds.{holds}
use Rattle.ft_hist.specs.declared.item.KeyItem.{KeyItem}
use Rattle.ft_fields.specs.declared.key.Part.{Part}
use Rattle.ft_hist.specs.Hist.{Hist}
use Rattle.ft_hist.specs.Modifiers.{value_part}
use Rattle.ft_hist.specs.Triggers.{Triggers}

-- the part of a key that a key item makes of an event; none if the event doesn't have the item's field, or if the item's modifier makes nothing of its value (kernel: histogram.rst, `keys`)
abbrev pub part_of : KeyItem → Traced → Option Part
part_of item event = option_and_then (value_part item.mode) (field_of event item.field)

-- the parts that key items make of an event, if each makes one (kernel: histogram.rst, `keys`)
abbrev pub key_of : List KeyItem → Traced → Option (List Part)
key_of [] event = Some []
key_of (item ∷ items) event = option_and_then (λ part. option_map (λ rest. part ∷ rest) (key_of items event)) (part_of item event)

-- two names of events are the same
abbrev pub same_name : Name → Name → Bool
same_name names.Waking names.Waking = true
same_name names.Wakeup names.Wakeup = true
same_name names.WakeupNew names.WakeupNew = true
same_name names.Switch names.Switch = true
same_name names.WakeupLatency names.WakeupLatency = true
same_name names.Other names.Other = true
same_name a b = false

-- the event passes the filter, if there is one (kernel: histogram.rst, hist triggers with a filter)
abbrev pub passes_filter : Option Tree → Traced → Bool
passes_filter filter event = option_map_or (holds event) filter true

-- the event is the trigger's, and passes its filter (kernel: histogram.rst, hist triggers)
abbrev pub is_asked : Hist → Traced → Bool
is_asked hist event = same_name hist.event (name_of event.body) && passes_filter hist.filter event

-- what a trigger counts an event under, if the event is a hit (kernel: histogram.rst, hist triggers)
abbrev pub hit : Hist → Traced → Option (List Part)
hit hist event = if is_asked hist event then key_of hist.keys event else None

-- the event is no hit of any of the triggers (kernel: histogram.rst, hist triggers)
abbrev pub IsNoHit : Triggers → Traced → Type 0
IsNoHit triggers event = (id : ℕ) (hist : Hist) → map.get triggers id ≡ Some hist → hit hist event ≡ None
