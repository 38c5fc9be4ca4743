use Rattle.std.proofs.Common.{ap, refl, sym}
use Rattle.std.specs.List.{count_by}
use Rattle.std.specs.Map.{lookup, values_of}
use Rattle.std.specs.Ordering.{int_cmp, is_eq, nat_cmp}
use Rattle.ft_summary.specs.Runs.{last_switch, total}
use Rattle.ft_summary.specs.Waiting.{latest, tasks_of}
use Rattle.ft_summary.specs.inner.Changes.{standing_waits}
use Rattle.ft_summary.specs.declared.tasks.Task.{Task}
use Rattle.ft_summary.proofs.summary.Summary.new.Goals as goal

pub returns : goal.returns
unfolding last_switch total latest tasks_of
returns c = record {
  latest = refl;
  waited = refl;
  tasks = λ pid. ap (λ es. lookup (λ (task : Task). is_eq (int_cmp pid task.pid)) es) c.new.ensures.empty;
  waiting = sym (ap (λ es. count_by standing_waits (values_of es)) c.new.ensures.empty);
  cpus = λ cpu. ap (λ es. lookup (λ number. is_eq (nat_cmp cpu number)) es) c.new-2.ensures.empty;
  tasks_ascend = c.new.ensures.ordered;
  cpus_ascend = c.new-2.ensures.ordered;
}
