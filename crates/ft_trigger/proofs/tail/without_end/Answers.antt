use Rattle.std.proofs.Common.{sym, ◌∙◌}
use Rattle.ft_trigger.proofs.Cutting.{skip-end}
use Rattle.ft_trigger.proofs.tail.without_end.Goals as goal

pub loop-last-preserved : goal.loop-last-preserved
loop-last-preserved c =
    skip-end c.loop-last.rest.now c.in-Some.before.now c.in-Some.last.now c.in-Some.ensures.cases.0 (sym c.is_gap.ensures ∙ c.if-not-is_gap.false)
    ∙ c.loop-last.invariant
