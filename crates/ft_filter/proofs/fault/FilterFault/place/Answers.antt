use Rattle.std.proofs.Common.{rules}
use Rattle.ft_filter.proofs.fault.FilterFault.place.Goals as goal

pub returns-in-Memory : goal.returns-in-Memory
returns-in-Memory c = search rules
