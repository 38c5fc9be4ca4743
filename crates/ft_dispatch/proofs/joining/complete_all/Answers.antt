use Rattle.std.proofs.Common.{ap, get_or}
use Rattle.ft_dispatch.proofs.Steps.{none-left-over, left-over-more, all-left-over}
use Rattle.ft_dispatch.proofs.joining.complete_all.Goals as goal

pub loop-one-init : goal.loop-one-init
loop-one-init c = none-left-over c.args.tasks.now c.args.dispatches.now

pub loop-one-preserved : goal.loop-one-preserved
loop-one-preserved c =
    let i = c.loop-one.one-index in
    let behind = c.loop-one.dispatches in
    left-over-more c.args.tasks.now c.args.dispatches.now i c.loop-one.tasks c.complete.new.tasks behind (get_or behind i c.one-item.result) c.complete.new.one
    c.loop-one.invariant c.loop-one-test.true (ap (get_or behind i) c.one-item.is) c.complete.ensures.one c.complete.ensures.forgets

pub returns-clause-dispatches : goal.returns-clause-dispatches
returns-clause-dispatches c = (all-left-over c.args.tasks.now c.args.dispatches.now c.loop-one.one-index c.loop-one.tasks c.loop-one.dispatches c.loop-one.invariant c.loop-one-test.false).0

pub returns-clause-knows : goal.returns-clause-knows
returns-clause-knows c = (all-left-over c.args.tasks.now c.args.dispatches.now c.loop-one.one-index c.loop-one.tasks c.loop-one.dispatches c.loop-one.invariant c.loop-one-test.false).1
