-- The lane's own lines, at places after the store.
use Rattle.std.proofs.Common.{sym, subst, length}
use Rattle.ft_lanes.specs.inner.Rows.{Rise, AreBelow}
use Rattle.ft_lanes.proofs.Copies.{copy-rises, copy-below}
use Rattle.ft_lanes.proofs.rebuild.copy_lane.Goals as goal

pub of-slots-requires-clause-rising : goal.of-slots-requires-clause-rising
of-slots-requires-clause-rising c = subst Rise (sym c.in_ok-lines.ensures.lines) (copy-rises (length c.args.store.now) c.args.lane.now)

pub of-slots-requires-clause-below : goal.of-slots-requires-clause-below
of-slots-requires-clause-below c = subst (AreBelow c.next.result) (sym c.in_ok-lines.ensures.lines) (copy-below (length c.args.store.now) c.args.lane.now c.next.result c.next.ensures.above)
