use Rattle.std.proofs.Common.{rules}
use Rattle.ft_base.proofs.refused.Refused.number.Goals as goal

pub returns-in-KeyMismatch : goal.returns-in-KeyMismatch
returns-in-KeyMismatch c = search rules
