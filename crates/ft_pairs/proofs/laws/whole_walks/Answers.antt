use Rattle.ft_pairs.proofs.Walks.{walk_order, walk_each}
use Rattle.ft_pairs.proofs.laws.whole_walks.Goals as goal

pub returns : goal.returns
returns c = record { order = walk_order; each = walk_each }
