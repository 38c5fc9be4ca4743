use Rattle.ft_pairs.proofs.Local.{same_source, far_source}
use Rattle.ft_pairs.proofs.laws.local_sources.Goals as goal

pub returns : goal.returns
returns c = record { front = same_source; behind = far_source }
