use Rattle.ft_replay.proofs.Places.{merged_at}
use Rattle.ft_replay.proofs.laws.merged_order.Goals as goal

pub returns : goal.returns
returns c = λ base place. merged_at place base
