use Rattle.std.proofs.Common.{rules}
use Rattle.ft_hits.specs.Marks.{mark_same}
use Rattle.ft_hits.proofs.laws.one_mark_order.Goals as goal

pub returns-clause-ties : goal.returns-clause-ties
returns-clause-ties c = mark_same

pub returns-clause-order : goal.returns-clause-order
returns-clause-order c = search rules
