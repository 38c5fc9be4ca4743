use Rattle.std.proofs.Common.{rules}
use Rattle.ft_hits.proofs.series.added.Goals as goal

pub returns : goal.returns
returns c = search rules
