-- Which events name a task, and which task a CPU runs before its first event and after its last one. Events stand newest first.
use Rattle.std.specs.Prelude.{ℕ, ℤ, pos, ◌==◌, ◌||◌, ◌&&◌, Bool, false, List, [], ◌∷◌, Option, Some, None, nat_lt, if◌then◌else◌}
use Rattle.std.specs.List.{list_any}
use Rattle.std.specs.Option.{option_or}
use Rattle.std.specs.Ordering.{int_eq, int_cmp, is_lt}
use Rattle.ft_fields.specs.Traced.{Traced}
use Rattle.ft_fields.specs.declared.event.Body.{Body}
use Rattle.ft_fields.specs.declared.event.Body.TheVariants as bodies
use Rattle.ft_windows.specs.declared.lanes.Edge.{Edge}

-- ---- tasks

-- whether a number is that of a task: 0 is that of each CPU's idle task, and perf writes -1 for a task that has ended
abbrev pub is_task : ℤ → Bool
is_task pid = is_lt (int_cmp (pos 0) pid)

-- whether an event says of a task that it is woken or created, or that a switch leaves it or runs it
abbrev pub says : ℤ → Body → Bool
says pid (bodies.Waking wake) = int_eq wake.pid pid
says pid (bodies.Wakeup wake) = int_eq wake.pid pid
says pid (bodies.WakeupNew wake) = int_eq wake.pid pid
says pid (bodies.Switch turn) = int_eq turn.prev_pid pid || int_eq turn.next_pid pid
says pid (bodies.WakeupLatency matched) = false
says pid bodies.Other = false

-- whether an event names a task: it stands on a line of the task, or says something of it
abbrev pub names : ℤ → Traced → Bool
names pid event = int_eq event.pid pid || says pid event.body

-- whether any event at an earlier stamp names a task
abbrev pub named_before : List Traced → ℤ → ℕ → Bool
named_before events pid stamp = list_any (λ event. names pid event && nat_lt event.stamp stamp) events

-- whether any event at a later stamp does
abbrev pub named_after : List Traced → ℤ → ℕ → Bool
named_after events pid stamp = list_any (λ event. names pid event && nat_lt stamp event.stamp) events

-- ---- CPUs

-- the task that a CPU runs after an event: the one that a switch gives it to, else that of the event's line
abbrev pub next_by : ℤ → Body → ℤ
next_by pid (bodies.Switch turn) = turn.next_pid
next_by pid (bodies.Waking wake) = pid
next_by pid (bodies.Wakeup wake) = pid
next_by pid (bodies.WakeupNew wake) = pid
next_by pid (bodies.WakeupLatency matched) = pid
next_by pid bodies.Other = pid

-- the stamp of a CPU's first event, and the task that the CPU ran before it
unfoldable pub first_edge : ℕ → List Traced → Option Edge
first_edge cpu [] = None
first_edge cpu (event ∷ before) = if event.cpu == cpu then option_or (first_edge cpu before) (Some (record { stamp = event.stamp; pid = event.pid })) else first_edge cpu before

-- the stamp of its last event, and the task that it runs after it
unfoldable pub last_edge : ℕ → List Traced → Option Edge
last_edge cpu [] = None
last_edge cpu (event ∷ before) = if event.cpu == cpu then Some (record { stamp = event.stamp; pid = next_by event.pid event.body }) else last_edge cpu before
