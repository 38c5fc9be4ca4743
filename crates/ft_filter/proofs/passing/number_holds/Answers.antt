use Rattle.std.proofs.Common.{rules}
use Rattle.ft_filter.proofs.passing.number_holds.Goals as goal

pub returns-in-Lt : goal.returns-in-Lt
returns-in-Lt c = search rules
