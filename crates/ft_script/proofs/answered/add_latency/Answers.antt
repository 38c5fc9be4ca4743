use Rattle.std.proofs.Common.{arith}
use Rattle.std.proofs.lemmas.Grind.{common_steps}
use Rattle.ft_script.specs.Answered.{latency_line}
use Rattle.ft_script.proofs.answered.add_latency.Goals as goal

pub returns : goal.returns
unfolding latency_line
returns c = grind (arith, common_steps)
