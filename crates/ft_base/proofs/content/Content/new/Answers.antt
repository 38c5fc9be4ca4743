-- The empty board is seen as the empty base.
use Rattle.ft_base.proofs.Reachable.{empty-IsReachable}
use Rattle.ft_base.proofs.content.Content.new.Goals as goal

pub invariant_of-result : goal.invariant_of-result
invariant_of-result c = rw (c.new.ensures, c.new-2.ensures) empty-IsReachable
