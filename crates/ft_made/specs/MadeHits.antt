-- The hits that a trigger has among the events that are made in a whole replay.
use Rattle.std.specs.Prelude.{ℤ, List, Option, Some, None, option_map, option_and_then, filter_map, map as list_map, if◌then◌else◌}
use Rattle.std.specs.FinMap as map
use Rattle.ft_fields.specs.Traced.{Traced}
use Rattle.ft_fields.specs.Parts.{same_key}
use Rattle.ft_hist.specs.Hist.{Hist}
use Rattle.ft_hist.specs.Hit.{hit}
use Rattle.ft_hits.specs.declared.mark.Mark.{Mark}
use Rattle.ft_hits.specs.declared.spot.Spot.{Spot}
use Rattle.ft_table.specs.Hits.{Hits}
use Rattle.ft_table.specs.Values.{values_at}
use Rattle.ft_hist.specs.Triggers.{Triggers}
use Rattle.ft_replay.specs.Merged.{Events}
use Rattle.ft_replay.specs.Hits.{TriggerHit, entry_of}
use Rattle.ft_made.specs.MadeEvents.{made_at, made_events}

-- the hit that an event made at a spot is of a trigger, if it is one: it reads no variable (kernel: histogram.rst, synthetic events)
abbrev pub made_hit : Hist → Spot → Traced → Option TriggerHit
made_hit hist spot event = option_map (λ key. record { spot = spot; key = key; saved = None; values = values_at hist spot.pos event None }) (hit hist event)

-- the hit of a trigger that stands at a spot, if an event is made there and is one (kernel: histogram.rst, synthetic events)
unfoldable pub made_hit_at : Triggers → Events → Hist → Spot → Option TriggerHit
made_hit_at triggers events hist spot = option_and_then (made_hit hist spot) (made_at triggers events spot)

-- all hits of a trigger among made events, in order of their spots (kernel: histogram.rst, synthetic events)
unfoldable pub made_hits : Triggers → Events → Hist → List TriggerHit
made_hits triggers events hist = filter_map (made_hit_at triggers events hist) (map.keys (made_events triggers events))

-- the map of hits that the table of the trigger is made of
unfoldable pub made_hits_of : Triggers → Events → Hist → Hits
made_hits_of triggers events hist = map.from_entries (list_map entry_of (made_hits triggers events hist))

-- what the event made at a mark's spot, if one is made, adds to the sums of the mark's key, if it is a hit of that key (kernel: histogram.rst, `values`)
abbrev pub values_of_made : Hist → Mark → Option Traced → Option (List ℤ)
values_of_made hist mark made = option_and_then (λ found. if same_key mark.key found.key then Some found.values else None) (option_and_then (made_hit hist mark.spot) made)

-- what the trigger's hit at a spot under a key adds to the sums, if there is one (kernel: histogram.rst, `values`)
unfoldable pub values_made : Triggers → Events → Hist → Mark → Option (List ℤ)
values_made triggers events hist mark = values_of_made hist mark (made_at triggers events mark.spot)
