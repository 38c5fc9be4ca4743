use Rattle.std.proofs.Common.{arith}
use Rattle.ft_hist.proofs.PowerLemmas.{log2_of_least, log2_of_leading}
use Rattle.ft_hist.proofs.modifier.log2_of.Goals as goal

pub returns-then-value-eq0 : goal.returns-then-value-eq0
returns-then-value-eq0 c = omega (arith, log2_of_least c.args.value 0 (omega arith))

pub returns-else-value-eq0 : goal.returns-else-value-eq0
returns-else-value-eq0 c = log2_of_leading c.args.value (omega arith) (omega arith)
