-- No marks are in order.
use Rattle.std.proofs.Common.{sym, ap, ◌∙◌}
use Rattle.ft_table.specs.inner.Ordered.{Ordered}
use Rattle.ft_table.proofs.Empty.{order-empty}
use Rattle.ft_table.proofs.ranked.Ranked.new.Goals as goal

pub returns-clause-order : goal.returns-clause-order
returns-clause-order c = ap (λ (o : Ordered). o.marks) c.new.ensures ∙ sym order-empty
