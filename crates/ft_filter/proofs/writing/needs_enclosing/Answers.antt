use Rattle.std.proofs.Common.{arith}
use Rattle.ft_filter.proofs.Trees.{shapes}
use Rattle.ft_filter.proofs.writing.needs_enclosing.Goals as goal

pub returns-in-Any : goal.returns-in-Any
returns-in-Any c = grind (arith, shapes)
