use Rattle.std.proofs.Common.{rules}
use Rattle.ft_hist.proofs.values.value_of.Goals as goal

pub returns-in-Own : goal.returns-in-Own
returns-in-Own c = search rules
