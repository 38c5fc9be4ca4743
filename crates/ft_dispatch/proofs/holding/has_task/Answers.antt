use Rattle.std.proofs.Common.{ap, ◌∙◌, w32}
use Rattle.std.proofs.lemmas.Int.{to_z-of_z}
use Rattle.std.specs.Prelude.{ℤ}
use Rattle.ft_dispatch.specs.Holding.{has_task}
use Rattle.ft_dispatch.proofs.holding.has_task.Goals as goal

pub returns : goal.returns
returns c = c.contains.ensures ∙ ap (λ (pid : ℤ). has_task pid c.args.tasks.now) (to_z-of_z w32 c.args.pid c.ranges.pid)
