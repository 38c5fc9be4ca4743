use Rattle.std.proofs.Common.{rules}
use Rattle.ft_text.proofs.number.below_zero.Goals as goal

pub returns-in-Some-2 : goal.returns-in-Some-2
returns-in-Some-2 c = search rules
