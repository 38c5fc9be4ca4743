use Rattle.std.proofs.Common.{rules}
use Rattle.ft_base.proofs.attach.saves_for.Goals as goal

pub returns-in-Some : goal.returns-in-Some
returns-in-Some c = search rules
