use Rattle.std.proofs.Common.{rules}
use Rattle.ft_lines.proofs.line.LineKind.of_any.Goals as goal

pub returns-in-Err : goal.returns-in-Err
returns-in-Err c = search rules
