use Rattle.std.proofs.Common.{rules}
use Rattle.ft_pairs.specs.Order.{at_same}
use Rattle.ft_pairs.proofs.laws.one_act_order.Goals as goal

pub returns-clause-ties : goal.returns-clause-ties
returns-clause-ties c = at_same

pub returns-clause-order : goal.returns-clause-order
returns-clause-order c = search rules
