use Rattle.std.proofs.Common.{rules}
use Rattle.ft_filter.proofs.fault.FilterFault.number.Goals as goal

pub returns-in-BadGlob : goal.returns-in-BadGlob
returns-in-BadGlob c = search rules
