use Rattle.std.proofs.Common.{sym, subst}
use Rattle.ft_lanes.specs.inner.Rows.{AreRows}
use Rattle.ft_lanes.proofs.RowLines.{rows-empty}
use Rattle.ft_lanes.proofs.slots.Slots.new.Goals as goal

pub invariant_of-result : goal.invariant_of-result
invariant_of-result c = subst (AreRows 0 1) (sym c.new.ensures.items) (rows-empty 1)
