use Rattle.ft_head.proofs.Numerals.{one_size}
use Rattle.ft_head.proofs.laws.sizes.Goals as goal

pub returns : goal.returns
returns c = one_size
