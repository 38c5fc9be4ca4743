use Rattle.std.proofs.Common.{arith}
use Rattle.std.proofs.lemmas.Grind.{common_steps}
use Rattle.ft_script.specs.Answered.{totals_line}
use Rattle.ft_script.proofs.answered.totals_line.Goals as goal

pub returns : goal.returns
unfolding totals_line
returns c = grind (arith, common_steps)
