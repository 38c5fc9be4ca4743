use Rattle.std.proofs.Common.{rules}
use Rattle.ft_fields.proofs.laws.one_order.Goals as goal

pub returns-clause-order : goal.returns-clause-order
returns-clause-order c = search rules
