use Rattle.std.proofs.Common.{rules}
use Rattle.ft_head.proofs.onmatch.traced_called.Goals as goal

pub returns-in-Some : goal.returns-in-Some
returns-in-Some c = search rules
