use Rattle.std.proofs.Common.{rules}
use Rattle.ft_filter.proofs.reading.behind_joint.Goals as goal

pub returns-clause-value : goal.returns-clause-value
returns-clause-value c = search rules
