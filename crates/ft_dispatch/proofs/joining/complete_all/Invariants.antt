use Rattle.ft_dispatch.proofs.Steps.{LeftOver}
use Rattle.ft_dispatch.proofs.joining.complete_all.Given as goal

abbrev pub invariant-loop-one : goal.invariant-loop-one
invariant-loop-one l = LeftOver l.fn.tasks l.fn.dispatches l.one-index l.tasks l.dispatches
