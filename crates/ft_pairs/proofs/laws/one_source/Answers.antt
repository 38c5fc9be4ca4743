use Rattle.ft_pairs.proofs.Alone.{one_source}
use Rattle.ft_pairs.proofs.laws.one_source.Goals as goal

pub returns : goal.returns
returns c = one_source
