-- Events, and the triggers that are attached to them, as C has them. All of it is our own choice.
use Rattle.std.specs.Prelude.{ℕ, pos, [], Option}
use Rattle.std.specs.Option.{option_map_or}
use Rattle.ft_base.specs.declared.listed.AttachedTrigger.{AttachedTrigger}
use Rattle.ft_fields.specs.Traced.{Traced, name_of}
use Rattle.ft_fields.specs.declared.event.Body.{Body}
use Rattle.ft_fields.specs.declared.event.Body.TheVariants as bodies
use Rattle.ft_fields.specs.declared.event.Turn.{Turn}
use Rattle.ft_fields.specs.declared.event.Wake.{Wake}
use Rattle.ft_fields.specs.declared.pos.Pos.{Pos}
use Rattle.ft_lanes.specs.Held.{Lanes}
use Rattle.ft_replay.specs.Merged.{held_at}
use Rattle.ft_layout.specs.Names.{name_layout, name_number}
use Rattle.ft_layout.specs.Places.{place_layout}
use Rattle.ft_layout.specs.declared.events.EventLayout.{EventLayout}
use Rattle.ft_layout.specs.declared.events.TriggerLayout.{TriggerLayout}

-- the number in place of a name if no event is held
abbrev pub no_event : ℕ
no_event = 255

-- no event at a place, and zeros
abbrev pub none_at : Pos → EventLayout
none_at at = record {
  place = place_layout at;
  name = no_event;
  common_pid = pos 0;
  pid = pos 0;
  prio = pos 0;
  target_cpu = pos 0;
  prev_pid = pos 0;
  prev_prio = pos 0;
  task = name_layout [];
  comm = name_layout [];
  prev_comm = name_layout [];
  prev_state = name_layout [];
}

-- with the task that is woken, and the CPU that it is woken on
abbrev pub with_wake : EventLayout → Wake → EventLayout
with_wake layout wake = record layout {
  pid = wake.pid;
  prio = wake.prio;
  target_cpu = wake.target_cpu;
  comm = name_layout wake.comm;
}

-- with the task that is switched to, and the one that is switched from
abbrev pub with_turn : EventLayout → Turn → EventLayout
with_turn layout turn = record layout {
  pid = turn.next_pid;
  prio = turn.next_prio;
  comm = name_layout turn.next_comm;
  prev_pid = turn.prev_pid;
  prev_prio = turn.prev_prio;
  prev_comm = name_layout turn.prev_comm;
  prev_state = name_layout turn.prev_state;
}

-- with what was traced; of an event that a trigger made, and of any without a name, nothing more is there
abbrev pub with_body : EventLayout → Body → EventLayout
with_body layout (bodies.Waking wake) = with_wake layout wake
with_body layout (bodies.Wakeup wake) = with_wake layout wake
with_body layout (bodies.WakeupNew wake) = with_wake layout wake
with_body layout (bodies.Switch turn) = with_turn layout turn
with_body layout (bodies.WakeupLatency matched) = layout
with_body layout bodies.Other = layout

-- the event at a place: its name and the task that ran, and what was traced
abbrev pub held_event_layout : Pos → Traced → EventLayout
held_event_layout at event = with_body (record (none_at at) { name = name_number (name_of event.body); common_pid = event.pid; task = name_layout event.task }) event.body

-- the event at a place, if one is held
abbrev pub event_layout : Pos → Option Traced → EventLayout
event_layout at event = option_map_or (held_event_layout at) event (none_at at)

-- what lanes hold at a place: at its CPU and line, with its stamp
abbrev pub event_in : Lanes → Pos → EventLayout
event_in lanes at = event_layout at (held_at lanes at)

-- an attached trigger: its id, and the number of its events' name
abbrev pub trigger_layout : AttachedTrigger → TriggerLayout
trigger_layout attached = record { id = attached.id; event = name_number attached.event }
