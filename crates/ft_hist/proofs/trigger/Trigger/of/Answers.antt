use Rattle.std.proofs.Common.{rules}
use Rattle.ft_hist.proofs.trigger.Trigger.of.Goals as goal

pub returns : goal.returns
returns c = search rules
