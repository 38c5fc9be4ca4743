-- What a summary tells after acts, which stand with their places, newest first.
use Rattle.std.specs.Prelude.{◌≡◌, ℕ, ◌-◌, ℤ, Bool, List, ◌∷◌, ◌++◌, reverse, Option, Some, None, option_map, if◌then◌else◌}
use Rattle.std.specs.BTreeMap.{IsOrdered}
use Rattle.std.specs.List.{list_any}
use Rattle.std.specs.Ordering.{int_eq, nat_cmp}
use Rattle.ft_fields.specs.declared.pos.Pos.{Pos}
use Rattle.ft_dispatch.specs.Acts.{Act, Handover}
use Rattle.ft_summary.specs.Figures.{task_sum, task_sums, last_cpu, cpu_sum, cpu_sums}
use Rattle.ft_summary.specs.Runs.{total, last_switch}
use Rattle.ft_summary.specs.Waiting.{tasks_of, is_runnable, is_running, latest, waited_up_to, waited_since_switch}
use Rattle.ft_summary.specs.inner.Changes.{task_cmp, found_task, number_waiting, found_cpu}
use Rattle.ft_summary.specs.declared.cpus.Cpu.{Cpu}
use Rattle.ft_summary.specs.declared.standing.Standing.{Standing}
use Rattle.ft_summary.specs.declared.summary.Summary.{Summary}
use Rattle.ft_summary.specs.declared.sums.Sums.{Sums}

-- ---- tasks

-- how a task stands
unfoldable pub standing : ℤ → List (Pos × Act) → Standing
standing pid acts = record {
  sum = task_sum pid acts;
  cpu = last_cpu pid acts;
  running = is_running pid acts;
  runnable = is_runnable pid acts;
}

-- whether acts name a task; task 0 isn't counted
abbrev pub is_named : ℤ → List (Pos × Act) → Bool
is_named pid acts = list_any (λ named. int_eq named pid) (tasks_of acts)

-- how a task stands, if acts name it
abbrev pub standing_if_named : ℤ → List (Pos × Act) → Option Standing
standing_if_named pid acts = if is_named pid acts then Some (standing pid acts) else None

-- ---- CPUs

-- how long some task waited
abbrev pub waited : List (Pos × Act) → ℕ
waited acts = total (λ place act before. waited_up_to place before) acts

-- how long some task had waited by the last switch of a CPU
abbrev pub waited_by_switch : ℕ → List (Pos × Act) → ℕ
waited_by_switch cpu acts = waited acts - waited_since_switch cpu acts

-- what a CPU runs since its last switch
abbrev pub cpu_since : ℕ → List (Pos × Act) → Pos × Handover → Cpu
cpu_since cpu acts last = record { pid = last.1.next_pid; stamp = last.0.stamp; waited = waited_by_switch cpu acts; sum = cpu_sum cpu acts }

-- ---- after acts

-- what is kept of each task and CPU is what the acts say, and the number of tasks that wait is right
pub record Tells (summary : Summary) (acts : List (Pos × Act)) : Type 0 where
  pub latest : summary.clock.latest ≡ latest acts
  pub waited : summary.clock.waited ≡ waited acts
  pub tasks : (pid : ℤ) → found_task summary.tasks pid ≡ standing_if_named pid acts
  pub waiting : summary.waiting ≡ number_waiting summary.tasks
  pub cpus : (cpu : ℕ) → found_cpu summary.cpus cpu ≡ option_map (cpu_since cpu acts) (last_switch cpu acts)
  pub tasks_ascend : IsOrdered task_cmp summary.tasks
  pub cpus_ascend : IsOrdered nat_cmp summary.cpus

-- after whatever acts, this one follows
abbrev pub Takes : Pos × Act → Summary → Summary → Type 0
Takes entry old new = (before : List (Pos × Act)) → Tells old before → Tells new (entry ∷ before)

-- after whatever acts, these follow in order
abbrev pub TakesAll : List (Pos × Act) → Summary → Summary → Type 0
TakesAll acts old new = (before : List (Pos × Act)) → Tells old before → Tells new (reverse acts ++ before)

-- these sums are those of whatever acts a summary tells
abbrev pub IsTold : Summary → Sums → Type 0
IsTold summary sums = (acts : List (Pos × Act)) → Tells summary acts → (sums.tasks.items ≡ task_sums acts) × (sums.cpus.items ≡ cpu_sums acts)
