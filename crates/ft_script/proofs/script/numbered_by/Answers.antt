use Rattle.std.proofs.Common.{rules}
use Rattle.ft_script.proofs.script.numbered_by.Goals as goal

pub returns-then-is_same-6 : goal.returns-then-is_same-6
returns-then-is_same-6 c = search rules
