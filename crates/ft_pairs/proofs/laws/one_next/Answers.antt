use Rattle.ft_pairs.proofs.Nexts.{one_next}
use Rattle.ft_pairs.proofs.laws.one_next.Goals as goal

pub returns : goal.returns
returns c = one_next
