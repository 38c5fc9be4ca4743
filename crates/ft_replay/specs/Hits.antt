-- What the events are to the attached triggers, in a whole replay: the hits of each, and what its readings find.
use Rattle.std.specs.Prelude.{ℕ, ℤ, List, Option, Some, None, option_map, option_and_then, nat_lt, filter, filter_map, fold, map as list_map}
use Rattle.std.specs.Option.{option_map_or}
use Rattle.std.specs.Ordering.{is_lt}
use Rattle.std.specs.FinMap as map
use Rattle.ft_fields.specs.declared.pos.Pos.{Pos}
use Rattle.ft_fields.specs.Places.{pos_cmp}
use Rattle.ft_fields.specs.declared.key.Part.{Part}
use Rattle.ft_hist.specs.Hist.{Hist}
use Rattle.ft_hist.specs.Hit.{hit}
use Rattle.ft_pairs.specs.declared.at.At.{At}
use Rattle.ft_hits.specs.declared.mark.Mark.{Mark}
use Rattle.ft_hits.specs.declared.spot.Spot.{Spot}
use Rattle.ft_table.specs.Spots.{traced, traced_place}
use Rattle.ft_table.specs.Hits.{Hits}
use Rattle.ft_table.specs.Tabled.{Tabled}
use Rattle.ft_replay.specs.declared.pair.Pair.{Pair}
use Rattle.ft_pairs.specs.declared.role.Role.{Role}
use Rattle.ft_pairs.specs.declared.role.Role.TheVariants.{Plain, Saves, Reads}
use Rattle.ft_pairs.specs.declared.role.Variable.{Variable}
use Rattle.ft_base.specs.Base.{Triggers}
use Rattle.ft_replay.specs.Merged.{Events}
use Rattle.ft_replay.specs.Replay.{State, act_at, replay}
use Rattle.ft_table.specs.Values.{values_at}
use Rattle.ft_base.specs.Roles.{role_of}

-- what replaying has come to as a trigger comes to act at a place: all events before have gone past, and the triggers before have acted there
unfoldable pub state_before : Triggers → Events → At → State
state_before triggers events at =
    let reached = replay triggers (map.retain_keys events (λ place. is_lt (pos_cmp place at.pos))) in
    option_map_or (λ event. fold (act_at triggers (at.pos, event)) reached (filter (λ attached. nat_lt attached.0 at.trigger) (map.entries triggers)))
    (map.get events at.pos) reached

-- what a reading at a place finds a variable set to: the place of the saving event (kernel: histogram.rst, inter-event hist triggers)
abbrev pub found_at : Triggers → Events → Variable → At → Option Pos
found_at triggers events variable at = map.get (state_before triggers events at).variables variable

-- a hit of a trigger: its spot and key, the place of the saving that it read, if it read, and what it adds to the sums
pub record TriggerHit : Type 0 where
  pub spot : Spot
  pub key : List Part
  pub saved : Option Pos
  pub values : List ℤ

-- what a hit of a key reads, if it is one: a trigger that reads no variable reads nothing; a reader has a hit if and only if its variable is found set (kernel: histogram.rst, inter-event hist triggers)
abbrev pub read_as : Role → (Variable → Option Pos) → List Part → Option (Option Pos)
read_as Plain found key = Some None
read_as Saves found key = Some None
read_as (Reads saver) found key = option_map (λ saved. Some saved) (found (record { saver = saver; key = key }))

-- the hit that the event at a place is of an attached trigger, if it is one (kernel: histogram.rst, hist triggers)
unfoldable pub hit_at : Triggers → Events → ℕ → Pos → Option TriggerHit
hit_at triggers events id at =
    option_and_then (λ event. option_and_then (λ hist. option_and_then (λ key.
    option_map (λ saved. record { spot = traced at; key = key; saved = saved; values = values_at hist at event saved })
    (read_as (role_of triggers hist.variable) (λ variable. found_at triggers events variable (record { pos = at; trigger = id })) key)
    ) (hit hist event)) (map.get triggers id)) (map.get events at)

-- the hit of an attached trigger among held events that stands at a spot, if one does: at a spot of a made event none does
abbrev pub hit_on : Triggers → Events → ℕ → Spot → Option TriggerHit
hit_on triggers events id spot = option_and_then (hit_at triggers events id) (traced_place spot)

-- all hits of an attached trigger among held events, in merged order (kernel: histogram.rst, hist triggers)
unfoldable pub trigger_hits : Triggers → Events → ℕ → List TriggerHit
trigger_hits triggers events id = filter_map (hit_at triggers events id) (map.keys events)

-- a hit as a table holds it: its values by its spot and key
abbrev pub entry_of : TriggerHit → Mark × List ℤ
entry_of found = (record { spot = found.spot; key = found.key }, found.values)

-- the map of hits that the table of a trigger is made of
unfoldable pub replayed_hits : Triggers → Events → ℕ → Hits
replayed_hits triggers events id = map.from_entries (list_map entry_of (trigger_hits triggers events id))

-- a trigger's table with these hits (kernel: histogram.rst, `size`)
abbrev pub table_for : Hist → Hits → Tabled
table_for hist hits = record { hits = hits; size = hist.size }

-- the pair of a hit, if it read
abbrev pub pair_of : TriggerHit → Option Pair
pair_of found = option_map (λ saved. record { saved = saved; read = found.spot.pos }) found.saved

-- the pairs that a trigger's readings make, in merged order of the reading, whether counted or dropped
unfoldable pub pairs_of : Triggers → Events → ℕ → List Pair
pairs_of triggers events id = filter_map pair_of (trigger_hits triggers events id)
