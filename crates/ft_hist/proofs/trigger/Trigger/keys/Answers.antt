use Rattle.std.proofs.Common.{rules}
use Rattle.ft_hist.proofs.trigger.Trigger.keys.Goals as goal

pub returns-clause-value : goal.returns-clause-value
returns-clause-value c = search rules
