use Rattle.ft_trigger.proofs.Swaps.{heads_swapped}
use Rattle.ft_trigger.proofs.laws.any_order.Goals as goal

pub returns : goal.returns
returns c = heads_swapped
