use Rattle.std.proofs.Common.{rules}
use Rattle.ft_trigger.proofs.tail.behind_if.Goals as goal

pub returns-in-Some : goal.returns-in-Some
returns-in-Some c = search rules
