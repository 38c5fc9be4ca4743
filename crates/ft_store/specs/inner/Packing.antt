-- Events as a store packs them: the bytes of all names in one text, and what else they say beside it.
use Rattle.std.specs.Prelude.{◌≡◌, ℕ, ◌+◌, ◌≤◌, List, [], ◌∷◌, ◌++◌, length, take, drop, map}
use Rattle.ft_fields.specs.declared.event.Body.{Body}
use Rattle.ft_fields.specs.declared.event.Body.TheVariants as bodies
use Rattle.ft_fields.specs.declared.event.Name.{Name}
use Rattle.ft_fields.specs.declared.event.Name.TheVariants as kinds
use Rattle.ft_fields.specs.declared.event.Turn.{Turn}
use Rattle.ft_fields.specs.declared.event.Wake.{Wake}
use Rattle.ft_fields.specs.Traced.{Traced, last_cpu, last_stamp}
use Rattle.ft_store.specs.declared.packed.Packed.{Packed}
use Rattle.ft_store.specs.declared.packed.PackedBody.{PackedBody}
use Rattle.ft_store.specs.declared.packed.PackedBody.TheVariants as packs
use Rattle.ft_store.specs.declared.packed.PackedTurn.{PackedTurn}
use Rattle.ft_store.specs.declared.packed.PackedWake.{PackedWake}

-- the names of a switch, one after the other
abbrev pub turn_names : Turn → List ℕ
turn_names turn = turn.prev_comm ++ (turn.prev_state ++ turn.next_comm)

-- the names of what was traced, one after the other
abbrev pub body_names : Body → List ℕ
body_names (bodies.Waking wake) = wake.comm
body_names (bodies.Wakeup wake) = wake.comm
body_names (bodies.WakeupNew wake) = wake.comm
body_names (bodies.Switch turn) = turn_names turn
body_names (bodies.WakeupLatency matched) = []
body_names bodies.Other = []

-- the names of an event: its task, then those of what was traced
abbrev pub event_names : Traced → List ℕ
event_names event = event.task ++ body_names event.body

-- a wake event without its name
abbrev pub packed_wake : Wake → PackedWake
packed_wake wake = record { comm = length wake.comm; pid = wake.pid; prio = wake.prio; target_cpu = wake.target_cpu }

-- a switch without its names
abbrev pub packed_turn : Turn → PackedTurn
packed_turn turn = record {
  prev_comm = length turn.prev_comm;
  prev_pid = turn.prev_pid;
  prev_prio = turn.prev_prio;
  prev_state = length turn.prev_state;
  next_comm = length turn.next_comm;
  next_pid = turn.next_pid;
  next_prio = turn.next_prio;
}

-- what was traced, without its names
abbrev pub packed_body : Body → PackedBody
packed_body (bodies.Waking wake) = packs.Waking (packed_wake wake)
packed_body (bodies.Wakeup wake) = packs.Wakeup (packed_wake wake)
packed_body (bodies.WakeupNew wake) = packs.WakeupNew (packed_wake wake)
packed_body (bodies.Switch turn) = packs.Switch (packed_turn turn)
packed_body (bodies.WakeupLatency matched) = packs.WakeupLatency matched
packed_body bodies.Other = packs.Other

-- an event without its names, which begin at a place of the text
abbrev pub packed : ℕ → Traced → Packed
packed begins event = record {
  stamp = event.stamp;
  begins = begins;
  pid = event.pid;
  cpu = event.cpu;
  task = length event.task;
  body = packed_body event.body;
}

-- an event whose names begin at a place of the text
abbrev pub packed_at : ℕ → Packed → Packed
packed_at begins event = record event { begins = begins }

-- an event whose names begin so many bytes further on
abbrev pub moved : ℕ → Packed → Packed
moved by event = packed_at (by + event.begins) event

-- how many bytes the names of a switch take
abbrev pub turn_width : PackedTurn → ℕ
turn_width turn = turn.prev_comm + (turn.prev_state + turn.next_comm)

-- how many bytes the names of what was traced take
abbrev pub body_width : PackedBody → ℕ
body_width (packs.Waking wake) = wake.comm
body_width (packs.Wakeup wake) = wake.comm
body_width (packs.WakeupNew wake) = wake.comm
body_width (packs.Switch turn) = turn_width turn
body_width (packs.WakeupLatency matched) = 0
body_width packs.Other = 0

-- how many bytes the names of an event take
abbrev pub width : Packed → ℕ
width event = event.task + body_width event.body

-- a wake event with its name, which these bytes begin with
abbrev pub unpacked_wake : List ℕ → PackedWake → Wake
unpacked_wake names wake = record { comm = take wake.comm names; pid = wake.pid; prio = wake.prio; target_cpu = wake.target_cpu }

-- a switch with its names, which these bytes begin with
abbrev pub unpacked_turn : List ℕ → PackedTurn → Turn
unpacked_turn names turn = record {
  prev_comm = take turn.prev_comm names;
  prev_pid = turn.prev_pid;
  prev_prio = turn.prev_prio;
  prev_state = take turn.prev_state (drop turn.prev_comm names);
  next_comm = take turn.next_comm (drop turn.prev_state (drop turn.prev_comm names));
  next_pid = turn.next_pid;
  next_prio = turn.next_prio;
}

-- what was traced, with its names, which these bytes begin with
abbrev pub body_of : List ℕ → PackedBody → Body
body_of names (packs.Waking wake) = bodies.Waking (unpacked_wake names wake)
body_of names (packs.Wakeup wake) = bodies.Wakeup (unpacked_wake names wake)
body_of names (packs.WakeupNew wake) = bodies.WakeupNew (unpacked_wake names wake)
body_of names (packs.Switch turn) = bodies.Switch (unpacked_turn names turn)
body_of names (packs.WakeupLatency matched) = bodies.WakeupLatency matched
body_of names packs.Other = bodies.Other

-- an event with its names, which these bytes begin with
abbrev pub event_of : List ℕ → Packed → Traced
event_of names event = record {
  task = take event.task names;
  pid = event.pid;
  cpu = event.cpu;
  stamp = event.stamp;
  body = body_of (drop event.task names) event.body;
}

-- the names of an event in the text of all names
abbrev pub own_names : List ℕ → Packed → List ℕ
own_names text event = take (width event) (drop event.begins text)

-- an event with its names, from the text of all names
abbrev pub unpacked : List ℕ → Packed → Traced
unpacked text event = event_of (own_names text event) event

-- all events with their names
abbrev pub all_unpacked : List ℕ → List Packed → List Traced
all_unpacked text events = map (unpacked text) events

-- which event it is
abbrev pub packed_name : PackedBody → Name
packed_name (packs.Waking wake) = kinds.Waking
packed_name (packs.Wakeup wake) = kinds.Wakeup
packed_name (packs.WakeupNew wake) = kinds.WakeupNew
packed_name (packs.Switch turn) = kinds.Switch
packed_name (packs.WakeupLatency matched) = kinds.WakeupLatency
packed_name packs.Other = kinds.Other

-- the names of a switch have at most 31 bytes each
abbrev pub IsShortTurn : PackedTurn → Type 0
IsShortTurn turn = (turn.prev_comm ≤ 31) × (turn.prev_state ≤ 31) × (turn.next_comm ≤ 31)

-- the names of what was traced have at most 31 bytes each
abbrev pub IsShortBody : PackedBody → Type 0
IsShortBody (packs.Waking wake) = wake.comm ≤ 31
IsShortBody (packs.Wakeup wake) = wake.comm ≤ 31
IsShortBody (packs.WakeupNew wake) = wake.comm ≤ 31
IsShortBody (packs.Switch turn) = IsShortTurn turn
IsShortBody (packs.WakeupLatency matched) = Unit {0}
IsShortBody packs.Other = Unit {0}

-- an event's names have at most 31 bytes each, and its stamp and CPU are those of an event
pub record IsSoundPacked (event : Packed) : Type 0 where
  pub task : event.task ≤ 31
  pub body : IsShortBody event.body
  pub stamp : event.stamp ≤ last_stamp
  pub cpu : event.cpu ≤ last_cpu

-- events are sound, and the names of each begin where those before it end, from one place of the text to another
abbrev pub AreLaid : ℕ → List Packed → ℕ → Type 0
AreLaid begins [] ends = begins ≡ ends
AreLaid begins (event ∷ events) ends = IsSoundPacked event × (event.begins ≡ begins) × AreLaid (begins + width event) events ends
