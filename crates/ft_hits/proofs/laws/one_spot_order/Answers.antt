use Rattle.std.proofs.Common.{rules}
use Rattle.ft_hits.specs.Spots.{spot_same}
use Rattle.ft_hits.proofs.laws.one_spot_order.Goals as goal

pub returns-clause-ties : goal.returns-clause-ties
returns-clause-ties c = spot_same

pub returns-clause-order : goal.returns-clause-order
returns-clause-order c = search rules
