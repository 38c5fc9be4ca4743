use Rattle.std.proofs.Common.{rules}
use Rattle.ft_filter.proofs.filter.Filter.event.Goals as goal

pub returns : goal.returns
returns c = search rules
