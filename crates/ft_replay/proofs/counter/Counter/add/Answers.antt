use Rattle.std.proofs.Common.{rules}
use Rattle.ft_replay.proofs.counter.Counter.add.Goals as goal

pub returns-clause-ok : goal.returns-clause-ok
returns-clause-ok c = search rules
