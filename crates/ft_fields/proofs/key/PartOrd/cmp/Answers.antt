use Rattle.std.proofs.Common.{rules}
use Rattle.ft_fields.proofs.key.PartOrd.cmp.Goals as goal

pub returns-in-Num-Num : goal.returns-in-Num-Num
returns-in-Num-Num c = search rules
