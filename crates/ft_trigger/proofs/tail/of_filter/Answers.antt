use Rattle.std.proofs.Common.{rules}
use Rattle.ft_trigger.proofs.tail.of_filter.Goals as goal

pub returns-in-Memory : goal.returns-in-Memory
returns-in-Memory c = search rules
