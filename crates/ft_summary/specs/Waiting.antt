-- Which tasks wait for a processor after acts, and how long some task waited. Acts stand with their places, newest first.
use Rattle.std.specs.Prelude.{ℕ, ◌+◌, ◌-◌, ℤ, pos, Bool, true, false, not, ◌&&◌, ◌||◌, List, [], ◌∷◌, ◌++◌, is_some, max, filter, if◌then◌else◌}
use Rattle.std.specs.List.{list_any}
use Rattle.std.specs.Ordering.{int_eq}
use Rattle.ft_fields.specs.declared.pos.Pos.{Pos}
use Rattle.ft_dispatch.specs.Acts.{Act, Waking, Creation, Wakeup, Switch}
use Rattle.ft_dispatch.specs.Dispatches.{creates, leaves, leaves_runnable, runs, wakes}
use Rattle.ft_summary.specs.Runs.{switch_on}

-- ---- tasks

-- the tasks that an act names; the end of a waking sums up to nothing, and names none
abbrev pub names : Act → List ℤ
names (Waking by woken) = woken ∷ []
names (Creation by created) = created ∷ []
names (Wakeup by woken) = []
names (Switch turn) = turn.next_pid ∷ turn.prev_pid ∷ []

-- whether a task isn't an idle task: each CPU has a task 0, which runs if no other can
abbrev pub is_counted : ℤ → Bool
is_counted pid = not (int_eq pid (pos 0))

-- the tasks that acts name, except task 0; one may stand there more than once
unfoldable pub tasks_of : List (Pos × Act) → List ℤ
tasks_of [] = []
tasks_of (entry ∷ before) = filter is_counted (names entry.1) ++ tasks_of before

-- whether a task runs: the last act that runs it or takes the CPU from it runs it
unfoldable pub is_running : ℤ → List (Pos × Act) → Bool
is_running pid [] = false
is_running pid (entry ∷ before) =
    if runs pid entry.1 then true
    else (if leaves pid entry.1 then false else is_running pid before)

-- whether a task can run: the last act that names it runs it, wakes it or creates it, or takes the CPU from it while it can still run. So a waking counts for nothing once a later switch leaves the task unable to run
unfoldable pub is_runnable : ℤ → List (Pos × Act) → Bool
is_runnable pid [] = false
is_runnable pid (entry ∷ before) =
    if runs pid entry.1 then true
    else (if leaves pid entry.1 then leaves_runnable entry.1
    else (if wakes pid entry.1 || creates pid entry.1 then true else is_runnable pid before))

-- whether a task waits for a processor: it can run, and doesn't
unfoldable pub waits : ℤ → List (Pos × Act) → Bool
waits pid acts = is_counted pid && (is_runnable pid acts && not (is_running pid acts))

-- whether some task waits
unfoldable pub some_task_waits : List (Pos × Act) → Bool
some_task_waits acts = list_any (λ pid. waits pid acts) (tasks_of acts)

-- ---- time

-- the latest stamp
unfoldable pub latest : List (Pos × Act) → ℕ
latest [] = 0
latest (entry ∷ before) = max (latest before) entry.0.stamp

-- the time from the acts before up to a place, if some task waited then; none, if the place isn't later
abbrev pub waited_up_to : Pos → List (Pos × Act) → ℕ
waited_up_to place before = if some_task_waits before then place.stamp - latest before else 0

-- the time in which some task waited since the last switch of a CPU
unfoldable pub waited_since_switch : ℕ → List (Pos × Act) → ℕ
waited_since_switch cpu [] = 0
waited_since_switch cpu (entry ∷ before) = if is_some (switch_on cpu entry.0 entry.1) then 0 else waited_since_switch cpu before + waited_up_to entry.0 before
