-- What an edit makes of a base, or why it is refused.
use Rattle.std.specs.Prelude.{ℕ, ◌+◌, List, length, Option, Some, None, Result, Ok, Err, nat_lt, nat_le, ◌||◌, if◌then◌else◌, option_map, option_and_then}
use Rattle.std.specs.Option.{option_map_or}
use Rattle.std.specs.FinMap as map
use Rattle.ft_fields.specs.Traced.{Traced}
use Rattle.ft_filter.specs.Tree.{Tree}
use Rattle.ft_hist.specs.declared.label.Var.{Var}
use Rattle.ft_hist.specs.declared.label.Var.TheVariants as vars
use Rattle.ft_hist.specs.Hist.{Hist, with_filter}
use Rattle.ft_hist.specs.Matching.{keys_match}
use Rattle.ft_lanes.specs.Held.{event_limit, number_limit, held_in}
use Rattle.ft_lanes.specs.Edits.{lane_or_new, lanes_with, lanes_without}
use Rattle.ft_lanes.specs.Loaded.{with_lanes, first_held}
use Rattle.ft_base.specs.declared.refused.Place.{Place}
use Rattle.ft_base.specs.declared.refused.Refused.{Refused}
use Rattle.ft_base.specs.declared.refused.Refused.TheVariants.{LaneHeld, NoLane, NoEvent, Full, NoTrigger, InUse, NameTaken, NoVariable, KeyMismatch, TooManyTriggers}
use Rattle.ft_base.specs.Base.{Triggers, Base, trigger_limit, id_limit}
use Rattle.ft_base.specs.Roles.{saver_of, reader_of, saves_for}

-- ---- lanes

-- loading events in file order: a lane for each of their CPUs, unless one of these lanes is held or the events would be too many
unfoldable pub after_load : Base → List Traced → Result (Base × ℕ) Refused
after_load base events =
    option_map_or (λ cpu. Err (LaneHeld cpu)) (first_held base.lanes events)
    (if nat_lt event_limit (held_in base.lanes + length events) then Err Full else Ok (record base { lanes = with_lanes base.lanes events }, length events))

-- unloading the lane of a CPU, if it is held: how many events it had
unfoldable pub after_unload : Base → ℕ → Result (Base × ℕ) Refused
after_unload base cpu =
    option_map_or (λ lane. Ok (record base { lanes = map.remove base.lanes cpu }, map.len lane.events)) (map.get base.lanes cpu) (Err (NoLane cpu))

-- inserting an event at the next line of its CPU's lane, which is made if there is none, unless the events or the lane's line numbers are used up: the event's place
unfoldable pub after_insert : Base → Traced → Result (Base × Place) Refused
after_insert base event =
    let line = (lane_or_new base.lanes event.cpu).next in
    if nat_le event_limit (held_in base.lanes) || nat_lt number_limit line then Err Full
    else Ok (record base { lanes = lanes_with base.lanes event }, record { cpu = event.cpu; line = line })

-- striking the event of a CPU's line, if it is held: its place; no other line changes its number, and this one is not given again while the lane is held
unfoldable pub after_strike : Base → ℕ → ℕ → Result (Base × Place) Refused
after_strike base cpu line =
    option_map_or (λ lane.
    option_map_or (λ event. Ok (record base { lanes = lanes_without base.lanes cpu line }, record { cpu = cpu; line = line }))
    (map.get lane.events line) (Err NoEvent)
    ) (map.get base.lanes cpu) (Err (NoLane cpu))

-- ---- triggers

-- what stands between a reader and a saver: the saver is on another event than the reader's onmatch part names, or their keys don't match (kernel: histogram.rst, inter-event hist triggers; the order is our own choice)
abbrev pub saver_refusal : Hist → Hist → Option Refused
saver_refusal reader saver =
    if saves_for reader saver then (if keys_match reader.keys saver.keys then None else Some KeyMismatch) else Some NoVariable

-- why a reader of a name can't be attached: no attached trigger saves the name, or what stands between it and the saver (kernel: histogram.rst, inter-event hist triggers)
unfoldable pub reader_refusal : Triggers → Hist → List ℕ → Option Refused
reader_refusal triggers reader source =
    option_map_or (saver_refusal reader) (option_and_then (map.get triggers) (saver_of triggers source)) (Some NoVariable)

-- why a trigger with this variable can't be attached: its name is saved already, or there is no saver that it could read from (kernel: histogram.rst, inter-event hist triggers; one saver a name is our own choice)
abbrev pub variable_refusal : Triggers → Hist → Option Var → Option Refused
variable_refusal triggers hist None = None
variable_refusal triggers hist (Some (vars.Saves label)) = option_map NameTaken (saver_of triggers label)
variable_refusal triggers hist (Some (vars.Reads own source)) = reader_refusal triggers hist source

-- attaching a trigger: at the next id, unless the triggers or the ids are used up, or the trigger can't be attached because of its variable
unfoldable pub after_attach : Base → Hist → Result (Base × ℕ) Refused
after_attach base hist =
    if nat_le trigger_limit (map.len base.triggers) || nat_lt id_limit base.next_id then Err TooManyTriggers
    else option_map_or Err (variable_refusal base.triggers hist hist.variable)
    (Ok (record base { triggers = map.insert base.triggers base.next_id hist; next_id = base.next_id + 1 }, base.next_id))

-- giving an attached trigger another filter, or none, for the events held before and for those to come
unfoldable pub after_refilter : Base → ℕ → Option Tree → Result (Base × ℕ) Refused
after_refilter base id filter =
    option_map_or (λ hist. Ok (record base { triggers = map.insert base.triggers id (with_filter hist filter) }, id)) (map.get base.triggers id) (Err NoTrigger)

-- the attached trigger that reads what a trigger with this variable saves, the first by id (kernel: histogram.rst, inter-event hist triggers)
abbrev pub reader_on : Triggers → Option Var → Option ℕ
reader_on triggers (Some (vars.Saves label)) = reader_of triggers label
reader_on triggers variable = None

-- removing an attached trigger, unless it saves what another reads (kernel: histogram.rst, inter-event hist triggers)
unfoldable pub after_remove : Base → ℕ → Result (Base × ℕ) Refused
after_remove base id =
    option_map_or (λ hist. option_map_or (λ reader. Err (InUse reader)) (reader_on base.triggers hist.variable) (Ok (record base { triggers = map.remove base.triggers id }, id)))
    (map.get base.triggers id) (Err NoTrigger)
