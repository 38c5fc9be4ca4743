use Rattle.std.proofs.Common.{rules}
use Rattle.ft_hist.proofs.triggers.Triggers.remove.Goals as goal

pub returns : goal.returns
returns c = search rules
