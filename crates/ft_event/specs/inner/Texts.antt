-- What structs of the code point to.
use Rattle.std.specs.Option.{option_copied}
use Rattle.ft_event.specs.LineIs.{Tail, Head}
use Rattle.ft_event.specs.Turns.{TurnText}
use Rattle.ft_event.specs.Wakes.{WakeText}
use Rattle.ft_event.specs.declared.columns.Tail as declared_tail
use Rattle.ft_event.specs.declared.columns.Head as declared_head
use Rattle.ft_event.specs.declared.turns.TurnText as declared_turn
use Rattle.ft_event.specs.declared.wakes.WakeText as declared_wake

-- the texts that a `Tail` of the code points to
abbrev pub tail_texts : declared_tail.Tail → Tail
tail_texts t = record { pid = t.pid.now; cpu = t.cpu.now; rest = t.rest.now }

-- the texts that a `Head` of the code points to
abbrev pub head_texts : declared_head.Head → Head
head_texts h = record { task = h.task.now; tail = tail_texts h.tail }

-- the texts that a `WakeText` of the code points to
abbrev pub wake_texts : declared_wake.WakeText → WakeText
wake_texts w = record { comm = w.comm.now; pid = w.pid.now; prio = w.prio.now; success = option_copied w.success; target_cpu = w.target_cpu.now }

-- the texts that a `TurnText` of the code points to
abbrev pub turn_texts : declared_turn.TurnText → TurnText
turn_texts t = record {
  prev_comm = t.prev_comm.now;
  prev_pid = t.prev_pid.now;
  prev_prio = t.prev_prio.now;
  prev_state = t.prev_state.now;
  next_comm = t.next_comm.now;
  next_pid = t.next_pid.now;
  next_prio = t.next_prio.now;
}
