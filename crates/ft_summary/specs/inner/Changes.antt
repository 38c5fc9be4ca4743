-- What an act changes of what is kept of tasks and CPUs.
use Rattle.std.specs.Prelude.{◌≡◌, ℕ, ◌+◌, ◌-◌, ◌^◌, ℤ, pos, Bool, true, false, not, ◌&&◌, Option, Some, None, max, min, nat_eq, nat_lt, if◌then◌else◌}
use Rattle.std.specs.List.{count_by}
use Rattle.std.specs.Map.{lookup}
use Rattle.std.specs.Option.{unwrap_or}
use Rattle.std.specs.declared.cmp.Ordering.{Ordering}
use Rattle.std.specs.Ordering.{int_cmp, int_eq, is_eq, nat_cmp}
use Rattle.std.specs.BTreeMap.{BTreeMap, IsOrdered, values}
use Rattle.ft_dispatch.specs.Acts.{can_run}
use Rattle.ft_dispatch.specs.declared.act.PlacedAct.{PlacedAct}
use Rattle.ft_summary.specs.Figures.{is_another, is_asleep, is_blocked}
use Rattle.ft_summary.specs.Runs.{capped, one_if}
use Rattle.ft_summary.specs.Waiting.{is_counted}
use Rattle.ft_summary.specs.declared.cpus.Cpu.{Cpu}
use Rattle.ft_summary.specs.declared.standing.Change.{Change}
use Rattle.ft_summary.specs.declared.standing.Change.TheVariants as changes
use Rattle.ft_summary.specs.declared.standing.Leaving.{Leaving}
use Rattle.ft_summary.specs.declared.standing.Standing.{Standing}
use Rattle.ft_summary.specs.declared.summary.Summary.{Summary}
use Rattle.ft_summary.specs.declared.sums.CpuSum.{CpuSum}
use Rattle.ft_summary.specs.declared.sums.TaskSum.{TaskSum}
use Rattle.ft_summary.specs.declared.tasks.Task.{Task}

-- a figure that is raised, and stops at the greatest number
abbrev pub summed : ℕ → ℕ → ℕ
summed figure more = capped (figure + more)

-- ---- a task

-- no act named it
abbrev pub none : ℤ → Standing
none pid = record {
  sum = record { pid = pid; run_time = 0; switches = 0; preempted = 0; slept = 0; blocked = 0; moved = 0 };
  cpu = None;
  running = false;
  runnable = false;
}

-- it waits for a processor
abbrev pub standing_waits : Standing → Bool
standing_waits standing = standing.runnable && not standing.running

-- it was woken or created
abbrev pub awoken_now : Standing → Standing
awoken_now standing = record { sum = standing.sum; cpu = standing.cpu; running = standing.running; runnable = true }

-- a switch left it
abbrev pub sum_left : Leaving → TaskSum → TaskSum
sum_left leaving sum = record {
  pid = sum.pid;
  run_time = summed sum.run_time leaving.ran_for;
  switches = sum.switches;
  preempted = summed sum.preempted (one_if (leaving.for_another && can_run leaving.state));
  slept = summed sum.slept (one_if (leaving.for_another && is_asleep leaving.state));
  blocked = summed sum.blocked (one_if (leaving.for_another && is_blocked leaving.state));
  moved = sum.moved;
}

abbrev pub left_by : Leaving → Standing → Standing
left_by leaving standing = record { sum = sum_left leaving standing.sum; cpu = Some leaving.cpu; running = false; runnable = can_run leaving.state }

-- a CPU went to it
abbrev pub sum_run : ℕ → Option ℕ → TaskSum → TaskSum
sum_run cpu last sum = record {
  pid = sum.pid;
  run_time = sum.run_time;
  switches = summed sum.switches 1;
  preempted = sum.preempted;
  slept = sum.slept;
  blocked = sum.blocked;
  moved = summed sum.moved (one_if (is_another last cpu));
}

abbrev pub ran_on : ℕ → Standing → Standing
ran_on cpu standing = record { sum = sum_run cpu standing.cpu standing.sum; cpu = Some cpu; running = true; runnable = true }

abbrev pub changed : Change → Standing → Standing
changed changes.Awoken standing = awoken_now standing
changed (changes.Left leaving) standing = left_by leaving standing
changed (changes.Run cpu) standing = ran_on cpu standing

-- ---- tasks

abbrev pub task_cmp : Task → Task → Ordering
task_cmp a b = int_cmp a.pid b.pid

-- how a task stands, if an act named it
abbrev pub found_task : BTreeMap Task Standing → ℤ → Option Standing
found_task tasks pid = lookup (λ task. is_eq (int_cmp pid task.pid)) tasks.entries

-- how each task stands once one changed; task 0 is left out
abbrev pub changed_in : (ℤ → Option Standing) → Change → ℤ → ℤ → Option Standing
changed_in tasks change pid q = if is_counted pid && int_eq pid q then Some (changed change (unwrap_or (tasks pid) (none pid))) else tasks q

-- how many tasks wait
abbrev pub number_waiting : BTreeMap Task Standing → ℕ
number_waiting tasks = count_by standing_waits (values tasks)

-- the number of tasks that wait once a task changed, by whether it waited and whether it waits
abbrev pub count_after : ℕ → Bool → Bool → ℕ
count_after waiting waited waits =
    if waits && not waited then min (waiting + 1) (2 ^ 64 - 1)
    else (if waited && not waits then waiting - 1 else waiting)

-- ---- CPUs

-- what a CPU runs, if a switch stood on it
abbrev pub found_cpu : BTreeMap ℕ Cpu → ℕ → Option Cpu
found_cpu cpus cpu = lookup (λ number. is_eq (nat_cmp cpu number)) cpus.entries

-- the length of the run that a switch ends
abbrev pub run_of : Option Cpu → ℤ → ℕ → ℕ
run_of None prev_pid stamp = 0
run_of (Some cpu) prev_pid stamp = if int_eq cpu.pid prev_pid then stamp - cpu.stamp else 0

-- a run of task 0 ended that began at a stamp and lasted so long, and in which some task waited so long
abbrev pub idled : ℕ → ℕ → ℕ → CpuSum → CpuSum
idled begun lasted waited sum = record {
  cpu = sum.cpu;
  idle = summed sum.idle lasted;
  unknown = sum.unknown;
  idle_with_waiters = summed sum.idle_with_waiters waited;
  longest = max sum.longest waited;
  longest_from = if nat_lt sum.longest waited then begun else sum.longest_from;
}

-- a switch is missing, so that it isn't known what ran for so long
abbrev pub not_known : ℕ → CpuSum → CpuSum
not_known lasted sum = record {
  cpu = sum.cpu;
  idle = sum.idle;
  unknown = summed sum.unknown lasted;
  idle_with_waiters = sum.idle_with_waiters;
  longest = sum.longest;
  longest_from = sum.longest_from;
}

-- what is added up once a switch left a task
abbrev pub cpu_summed : Cpu → PlacedAct → ℕ → CpuSum
cpu_summed cpu turn waited =
    if int_eq cpu.pid turn.prev_pid
    then (if int_eq turn.prev_pid (pos 0) then idled cpu.stamp (turn.place.stamp - cpu.stamp) (waited - cpu.waited) cpu.sum else cpu.sum)
    else not_known (turn.place.stamp - cpu.stamp) cpu.sum

-- a CPU that went to another task, once some task waited so long
abbrev pub cpu_turned : Cpu → PlacedAct → ℕ → Cpu
cpu_turned cpu turn waited = record { pid = turn.pid; stamp = turn.place.stamp; waited = waited; sum = cpu_summed cpu turn waited }

abbrev pub cpu_from : Option Cpu → PlacedAct → ℕ → Cpu
cpu_from None turn waited = record { pid = turn.pid; stamp = turn.place.stamp; waited = waited; sum = record { cpu = turn.place.cpu; idle = 0; unknown = 0; idle_with_waiters = 0; longest = 0; longest_from = 0 } }
cpu_from (Some cpu) turn waited = cpu_turned cpu turn waited

-- ---- a switch

-- how it leaves a task, whose run lasted so long
abbrev pub leaving_by : PlacedAct → ℕ → Leaving
leaving_by turn ran_for = record { cpu = turn.place.cpu; ran_for = ran_for; state = turn.prev_state; for_another = not (int_eq turn.prev_pid turn.pid) }

-- how each task stands once it left one
abbrev pub left_in : (ℤ → Option Standing) → PlacedAct → ℕ → ℤ → Option Standing
left_in tasks turn ran_for q = changed_in tasks (changes.Left (leaving_by turn ran_for)) turn.prev_pid q

-- and once it ran the next
abbrev pub run_in : (ℤ → Option Standing) → PlacedAct → ℤ → Option Standing
run_in tasks turn q = changed_in tasks (changes.Run turn.place.cpu) turn.pid q

-- what a switch changes of what is kept, once its time has come
pub record Switches (old new : Summary) (turn : PlacedAct) : Type 0 where
  pub clock : new.clock ≡ old.clock
  pub tasks : (q : ℤ) → found_task new.tasks q ≡ run_in (left_in (found_task old.tasks) turn (run_of (found_cpu old.cpus turn.place.cpu) turn.prev_pid turn.place.stamp)) turn q
  pub counts : old.waiting ≡ number_waiting old.tasks → new.waiting ≡ number_waiting new.tasks
  pub tasks_ascend : IsOrdered task_cmp old.tasks → IsOrdered task_cmp new.tasks
  pub cpus : (q : ℕ) → found_cpu new.cpus q ≡ (if nat_eq turn.place.cpu q then Some (cpu_from (found_cpu old.cpus turn.place.cpu) turn old.clock.waited) else found_cpu old.cpus q)
  pub cpus_ascend : IsOrdered nat_cmp new.cpus
