use Rattle.std.proofs.Common.{rules}
use Rattle.ft_hits.proofs.series.is_after.Goals as goal

pub returns-in-Some : goal.returns-in-Some
returns-in-Some c = search rules
