use Rattle.ft_head.proofs.Handing.{one_action}
use Rattle.ft_head.proofs.laws.one_action.Goals as goal

pub returns : goal.returns
returns c = one_action
