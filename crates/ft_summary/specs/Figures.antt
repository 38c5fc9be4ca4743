-- What acts sum up to, by task and by CPU. Acts stand with their places, newest first.
use Rattle.std.specs.Prelude.{ℕ, ◌+◌, ℤ, pos, Bool, true, false, not, ◌&&◌, ◌||◌, List, [], ◌∷◌, ◌++◌, Option, Some, None, nat_eq, map as list_map, if◌then◌else◌}
use Rattle.std.specs.FinMap as finite
use Rattle.std.specs.Option.{option_map_or, option_or}
use Rattle.std.specs.Ordering.{int_cmp, int_eq, nat_cmp}
use Rattle.ft_fields.specs.declared.pos.Pos.{Pos}
use Rattle.ft_dispatch.specs.Acts.{Act, Waking, Creation, Wakeup, Switch, Handover, can_run}
use Rattle.ft_dispatch.specs.Dispatches.{leaves, runs}
use Rattle.ft_dispatch.specs.declared.act.PrevState.{PrevState}
use Rattle.ft_dispatch.specs.declared.act.PrevState.TheVariants as states
use Rattle.ft_summary.specs.Runs.{capped, one_if, total, most, last_switch, run_begun, run_ended, unknown_ended}
use Rattle.ft_summary.specs.Waiting.{tasks_of, waited_since_switch, waited_up_to}
use Rattle.ft_summary.specs.declared.sums.CpuSum.{CpuSum}
use Rattle.ft_summary.specs.declared.sums.TaskSum.{TaskSum}

-- ---- by task

-- how long a run of a task lasted, if an act ends it
abbrev pub ran_for : ℤ → Pos → Act → List (Pos × Act) → ℕ
ran_for pid place (Waking by woken) before = 0
ran_for pid place (Creation by created) before = 0
ran_for pid place (Wakeup by woken) before = 0
ran_for pid place (Switch turn) before = if int_eq turn.prev_pid pid then run_ended place turn before else 0

-- 1 if a CPU goes to a task
abbrev pub switched_to : ℤ → Pos → Act → List (Pos × Act) → ℕ
switched_to pid place act before = one_if (runs pid act)

-- whether a task sleeps that a switch leaves so
abbrev pub is_asleep : PrevState → Bool
is_asleep states.Runnable = false
is_asleep states.Preempted = false
is_asleep states.Asleep = true
is_asleep states.Blocked = false
is_asleep states.Other = false

-- whether it is blocked
abbrev pub is_blocked : PrevState → Bool
is_blocked states.Runnable = false
is_blocked states.Preempted = false
is_blocked states.Asleep = false
is_blocked states.Blocked = true
is_blocked states.Other = false

-- 1 if a switch to another task leaves a task in a state that passes a test
abbrev pub left_for_another : (PrevState → Bool) → ℤ → Pos → Act → List (Pos × Act) → ℕ
left_for_another passes pid place (Waking by woken) before = 0
left_for_another passes pid place (Creation by created) before = 0
left_for_another passes pid place (Wakeup by woken) before = 0
left_for_another passes pid place (Switch turn) before = one_if (int_eq turn.prev_pid pid && (not (int_eq turn.prev_pid turn.next_pid) && passes turn.prev_state))

-- the CPU on which a task last ran or was left
unfoldable pub last_cpu : ℤ → List (Pos × Act) → Option ℕ
last_cpu pid [] = None
last_cpu pid (entry ∷ before) = if runs pid entry.1 || leaves pid entry.1 then Some entry.0.cpu else last_cpu pid before

-- whether a CPU is another one than the known one
abbrev pub is_another : Option ℕ → ℕ → Bool
is_another None cpu = false
is_another (Some known) cpu = not (nat_eq known cpu)

-- 1 if a switch from another task runs a task on another CPU than the one on which it last ran or was left
abbrev pub moved_to : ℤ → Pos → Act → List (Pos × Act) → ℕ
moved_to pid place act before = one_if (runs pid act && (not (leaves pid act) && is_another (last_cpu pid before) place.cpu))

-- what acts sum up to for a task
unfoldable pub task_sum : ℤ → List (Pos × Act) → TaskSum
task_sum pid acts = record {
  pid = pid;
  run_time = capped (total (ran_for pid) acts);
  switches = capped (total (switched_to pid) acts);
  preempted = capped (total (left_for_another can_run pid) acts);
  slept = capped (total (left_for_another is_asleep pid) acts);
  blocked = capped (total (left_for_another is_blocked pid) acts);
  moved = capped (total (moved_to pid) acts);
}

-- each task that acts name, except task 0, ascending
unfoldable pub task_sums : List (Pos × Act) → List TaskSum
task_sums acts = finite.values (finite.from_entries {R = int_cmp} (list_map (λ pid. (pid, task_sum pid acts)) (tasks_of acts)))

-- ---- by CPU

-- whether a switch ends a run of task 0 on a CPU
abbrev pub ends_idling : ℕ → Pos → Handover → Bool
ends_idling cpu place turn = nat_eq place.cpu cpu && int_eq turn.prev_pid (pos 0)

-- how long a run of task 0 on a CPU lasted, if an act ends it
abbrev pub idled_for : ℕ → Pos → Act → List (Pos × Act) → ℕ
idled_for cpu place (Waking by woken) before = 0
idled_for cpu place (Creation by created) before = 0
idled_for cpu place (Wakeup by woken) before = 0
idled_for cpu place (Switch turn) before = if ends_idling cpu place turn then run_ended place turn before else 0

-- how long it isn't known what a CPU ran, up to an act, if that is a switch of it: the time between two switches of which the second leaves another task than the first one went to. It is neither idle nor part of a run
abbrev pub unknown_for : ℕ → Pos → Act → List (Pos × Act) → ℕ
unknown_for cpu place (Waking by woken) before = 0
unknown_for cpu place (Creation by created) before = 0
unknown_for cpu place (Wakeup by woken) before = 0
unknown_for cpu place (Switch turn) before = if nat_eq place.cpu cpu then unknown_ended place turn before else 0

-- the time in which some task waited, from where a run began on a CPU up to a place
abbrev pub waited_in_run : Option Pos → Pos → List (Pos × Act) → ℕ
waited_in_run None place before = 0
waited_in_run (Some begun) place before = waited_since_switch place.cpu before + waited_up_to place before

-- the same of a run of task 0 on a CPU, if an act ends it
abbrev pub idled_with_waiters : ℕ → Pos → Act → List (Pos × Act) → ℕ
idled_with_waiters cpu place (Waking by woken) before = 0
idled_with_waiters cpu place (Creation by created) before = 0
idled_with_waiters cpu place (Wakeup by woken) before = 0
idled_with_waiters cpu place (Switch turn) before = if ends_idling cpu place turn then waited_in_run (run_begun turn.prev_pid (last_switch place.cpu before)) place before else 0

-- where a run of task 0 on a CPU began, if an act ends it
abbrev pub idle_begun : ℕ → Pos → Act → List (Pos × Act) → Option Pos
idle_begun cpu place (Waking by woken) before = None
idle_begun cpu place (Creation by created) before = None
idle_begun cpu place (Wakeup by woken) before = None
idle_begun cpu place (Switch turn) before = if ends_idling cpu place turn then run_begun turn.prev_pid (last_switch place.cpu before) else None

-- where the first run of task 0 on a CPU began in which some task waited so long
unfoldable pub first_idle_begun : ℕ → ℕ → List (Pos × Act) → Option Pos
first_idle_begun cpu waited [] = None
first_idle_begun cpu waited (entry ∷ before) =
    option_or (first_idle_begun cpu waited before)
    (if nat_eq (idled_with_waiters cpu entry.0 entry.1 before) waited then idle_begun cpu entry.0 entry.1 before else None)

-- its stamp; 0 if no task waited
abbrev pub idle_from : ℕ → Option Pos → ℕ
idle_from waited begun = if nat_eq waited 0 then 0 else option_map_or (λ place. place.stamp) begun 0

-- what acts sum up to for a CPU
unfoldable pub cpu_sum : ℕ → List (Pos × Act) → CpuSum
cpu_sum cpu acts = record {
  cpu = cpu;
  idle = capped (total (idled_for cpu) acts);
  unknown = capped (total (unknown_for cpu) acts);
  idle_with_waiters = capped (total (idled_with_waiters cpu) acts);
  longest = most (idled_with_waiters cpu) acts;
  longest_from = idle_from (most (idled_with_waiters cpu) acts) (first_idle_begun cpu (most (idled_with_waiters cpu) acts) acts);
}

-- the CPU of a switch
abbrev pub cpu_named : Pos → Act → List ℕ
cpu_named place (Waking by woken) = []
cpu_named place (Creation by created) = []
cpu_named place (Wakeup by woken) = []
cpu_named place (Switch turn) = place.cpu ∷ []

-- the CPUs on which a switch stands; one may stand there more than once
unfoldable pub cpus_of : List (Pos × Act) → List ℕ
cpus_of [] = []
cpus_of (entry ∷ before) = cpu_named entry.0 entry.1 ++ cpus_of before

-- each CPU on which a switch stands, ascending
unfoldable pub cpu_sums : List (Pos × Act) → List CpuSum
cpu_sums acts = finite.values (finite.from_entries {R = nat_cmp} (list_map (λ cpu. (cpu, cpu_sum cpu acts)) (cpus_of acts)))
