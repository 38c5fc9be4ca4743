use Rattle.std.proofs.Common.{rules}
use Rattle.ft_lines.proofs.layouts.TextLineLayout.of.Goals as goal

pub returns-in-Bad : goal.returns-in-Bad
returns-in-Bad c = search rules
