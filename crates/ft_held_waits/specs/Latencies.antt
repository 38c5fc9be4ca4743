-- The two triggers that match wakings with switches, and what they match (kernel: histogram.rst, inter-event hist triggers).
use Rattle.std.specs.Prelude.{◌≡◌, ℕ, pos, Bool, false, not, List, [], ◌∷◌, Option, Some, None, option_map, filter, filter_map}
use Rattle.std.specs.Option.{option_map_or}
use Rattle.std.specs.Ordering.{int_eq}
use Rattle.std.specs.FinMap as map
use Rattle.ft_fields.specs.Fields.{turn_of}
use Rattle.ft_fields.specs.declared.event.Name.TheVariants as names
use Rattle.ft_fields.specs.declared.field.Field.{Field}
use Rattle.ft_fields.specs.declared.field.Field.TheVariants as fields
use Rattle.ft_fields.specs.declared.pos.Pos.{Pos}
use Rattle.ft_hist.specs.Hist.{Hist}
use Rattle.ft_hist.specs.declared.item.KeyItem.{KeyItem}
use Rattle.ft_hist.specs.declared.label.Var.TheVariants as vars
use Rattle.ft_hist.specs.declared.modifier.Mode.TheVariants as modes
use Rattle.ft_pairs.specs.declared.role.Role.TheVariants.{Reads}
use Rattle.ft_base.specs.Base.{Triggers}
use Rattle.ft_base.specs.Roles.{role_at}
use Rattle.ft_replay.specs.Merged.{Events}
use Rattle.ft_replay.specs.Replay.{State, replay}
use Rattle.ft_replay.specs.declared.pair.Pair.{Pair}
use Rattle.ft_dispatch.specs.declared.dispatch.Dispatch.{Dispatch}
use Rattle.ft_held_waits.specs.Held.{dispatches_of_events}

-- ---- the two triggers

-- the key item of a field without a modifier
abbrev pub key_item : Field → KeyItem
key_item field = record { field = field; mode = modes.Plain }

-- `hist:keys=pid:NAME=common_timestamp.usecs` on `sched_waking`, with the values, the sorting, the size and the onmatch part of another trigger
abbrev pub saver_of_wakings : List ℕ → Hist → Hist
saver_of_wakings name other = record other { event = names.Waking; keys = key_item fields.Pid ∷ []; variable = Some (vars.Saves name); filter = None }

-- `hist:keys=next_pid:OWN=common_timestamp.usecs-$NAME` on `sched_switch`, with the values, the sorting, the size and the onmatch part of another trigger
abbrev pub reader_of_switches : List ℕ → List ℕ → Hist → Hist
reader_of_switches own name other = record other { event = names.Switch; keys = key_item fields.NextPid ∷ []; variable = Some (vars.Reads own name); filter = None }

-- two such triggers are attached at two ids: the one reads what the other saves, and no third reads it
pub record AreLatencyTriggers (triggers : Triggers) (saver reader : ℕ) : Type 0 where
  pub name : List ℕ
  pub own : List ℕ
  pub saving : Hist
  pub reading : Hist
  pub saves : map.get triggers saver ≡ Some (saver_of_wakings name saving)
  pub reads : map.get triggers reader ≡ Some (reader_of_switches own name reading)
  pub source : role_at triggers reader ≡ Reads saver
  pub only : (id : ℕ) → role_at triggers id ≡ Reads saver → id ≡ reader

-- two triggers, and no third
abbrev pub both : ℕ × Hist → ℕ × Hist → Triggers
both first second = map.from_entries (first ∷ second ∷ [])

-- ---- what they come to

-- how many hits of a trigger found no room, if it is attached
abbrev pub dropped_by : State → ℕ → Option ℕ
dropped_by state id = option_map (λ tally. tally.dropped) (map.get state.tallies id)

-- whether the event at a place is a switch to a task other than 0
abbrev pub runs_task : Events → Pos → Bool
runs_task events place = option_map_or (λ event. option_map_or (λ turn. not (int_eq turn.next_pid (pos 0))) (turn_of event.body) false) (map.get events place) false

-- the pairs of a trigger's readings at switches to tasks other than 0, if it is attached
abbrev pub task_pairs : Triggers → Events → ℕ → Option (List Pair)
task_pairs triggers events id = option_map (λ tally. filter (λ pair. runs_task events pair.read) tally.pairs) (map.get (replay triggers events).tallies id)

-- ---- the same of dispatches

-- a dispatch with the last waking before it, if there was one since the task last ran
abbrev pub woken_pair : Dispatch → Option Pair
woken_pair dispatch = option_map (λ woken. record { saved = woken; read = dispatch.place }) dispatch.since.woken

-- the wakings and switches of the dispatches that have a waking, the oldest first
abbrev pub woken_pairs : Events → List Pair
woken_pairs events = filter_map woken_pair (dispatches_of_events events)
