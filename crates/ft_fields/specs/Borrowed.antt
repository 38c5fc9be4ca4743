-- Events whose names stand in a text that is borrowed, and the events that they tell.
use Rattle.std.specs.Prelude.{ℕ, List, take}
use Rattle.ft_fields.specs.declared.borrowed.NameRef.{NameRef}
use Rattle.ft_fields.specs.declared.borrowed.WakeRef.{WakeRef}
use Rattle.ft_fields.specs.declared.borrowed.TurnRef.{TurnRef}
use Rattle.ft_fields.specs.declared.borrowed.BodyRef.{BodyRef}
use Rattle.ft_fields.specs.declared.borrowed.BodyRef.TheVariants as refs
use Rattle.ft_fields.specs.declared.borrowed.EventRef.{EventRef}
use Rattle.ft_fields.specs.declared.event.Wake.{Wake}
use Rattle.ft_fields.specs.declared.event.Turn.{Turn}
use Rattle.ft_fields.specs.declared.event.Body.{Body}
use Rattle.ft_fields.specs.declared.event.Body.TheVariants as bodies
use Rattle.ft_fields.specs.Traced.{Traced}

-- the bytes of a borrowed name
abbrev pub name_bytes : NameRef → List ℕ
name_bytes name = take name.len name.text.now

-- the wake event that is told
abbrev pub waked : WakeRef → Wake
waked wake = record { comm = name_bytes wake.comm; pid = wake.pid; prio = wake.prio; target_cpu = wake.target_cpu }

-- the switch that is told
abbrev pub turned : TurnRef → Turn
turned turn = record { prev_comm = name_bytes turn.prev_comm; prev_pid = turn.prev_pid; prev_prio = turn.prev_prio; prev_state = name_bytes turn.prev_state; next_comm = name_bytes turn.next_comm; next_pid = turn.next_pid; next_prio = turn.next_prio }

-- what is told of what was traced
abbrev pub owned_body : BodyRef → Body
owned_body (refs.Waking wake) = bodies.Waking (waked wake)
owned_body (refs.Wakeup wake) = bodies.Wakeup (waked wake)
owned_body (refs.WakeupNew wake) = bodies.WakeupNew (waked wake)
owned_body (refs.Switch turn) = bodies.Switch (turned turn)
owned_body (refs.WakeupLatency matched) = bodies.WakeupLatency matched
owned_body refs.Other = bodies.Other

-- the event that is told
abbrev pub event_told : EventRef → Traced
event_told event = record { task = name_bytes event.task; pid = event.pid; cpu = event.cpu; stamp = event.stamp; body = owned_body event.body }
