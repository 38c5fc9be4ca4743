use Rattle.std.proofs.Common.{rules}
use Rattle.ft_pairs.proofs.pairs.Pairs.insert.Goals as goal

pub returns-clause-puts : goal.returns-clause-puts
returns-clause-puts c = search rules
