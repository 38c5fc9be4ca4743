use Rattle.std.proofs.Common.{rules}
use Rattle.ft_answers.proofs.latency.latency_of.Goals as goal

pub returns : goal.returns
returns c = search rules
