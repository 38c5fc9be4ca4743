use Rattle.std.proofs.Common.{rules}
use Rattle.ft_lanes.proofs.walk.LinesIterator.next.Goals as goal

pub returns-clause-steps : goal.returns-clause-steps
returns-clause-steps c = search rules
