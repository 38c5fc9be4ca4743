use Rattle.std.proofs.Common.{rules}
use Rattle.ft_lines.proofs.line.LineEvent.of.Goals as goal

pub returns : goal.returns
returns c = search rules
