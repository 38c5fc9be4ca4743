use Rattle.std.proofs.Common.{ap, ◌∙◌, cond, true, w32}
use Rattle.std.proofs.lemmas.Int.{to_z-of_z}
use Rattle.std.specs.Prelude.{ℤ}
use Rattle.std.specs.Ordering.{int_eq}
use Rattle.ft_dispatch.specs.Holding.{has_task}
use Rattle.ft_dispatch.proofs.holding.add_task.Goals as goal

pub returns : goal.returns
returns c = λ q. c.in_ok-insert.ensures.updates.0 (record { pid = q }) ∙ ap (λ (p : ℤ). cond (int_eq p q) true (has_task q c.args.tasks.now)) (to_z-of_z w32 c.args.pid c.ranges.pid)
