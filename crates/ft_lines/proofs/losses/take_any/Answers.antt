use Rattle.std.proofs.Common.{rules}
use Rattle.ft_lines.proofs.losses.take_any.Goals as goal

pub returns-in-Ok-false : goal.returns-in-Ok-false
returns-in-Ok-false c = search rules
