use Rattle.std.proofs.Common.{rules}
use Rattle.ft_lines.proofs.lines.end_of.Goals as goal

pub returns : goal.returns
returns c = search rules
