use Rattle.ft_held_waits.proofs.Latencies.{latencies-matched}
use Rattle.ft_held_waits.proofs.TwoTriggers.{two-are-latency}
use Rattle.ft_held_waits.proofs.laws.woken_dispatches_are_latencies.Goals as goal

pub returns-clause-pairs : goal.returns-clause-pairs
returns-clause-pairs c = latencies-matched

pub returns-clause-both : goal.returns-clause-both
returns-clause-both c = two-are-latency
