use Rattle.std.proofs.Common.{refl}
use Rattle.ft_dispatch.specs.Dispatches.{runnable_since, last_since_run, last_seen, first_roused, dispatches}
use Rattle.ft_dispatch.proofs.tasks.Tasks.new.Goals as goal

pub returns : goal.returns
unfolding last_since_run last_seen first_roused runnable_since dispatches
returns c = record { knows = λ pid waits. c.new.ensures pid; tells = refl }
