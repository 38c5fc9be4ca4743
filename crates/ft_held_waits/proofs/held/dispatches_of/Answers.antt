use Rattle.std.proofs.Common.{take, [], List, sym, subst}
use Rattle.ft_fields.specs.declared.pos.Pos.{Pos}
use Rattle.ft_dispatch.specs.Acts.{Act}
use Rattle.ft_dispatch.specs.Telling.{Tells}
use Rattle.ft_held_waits.proofs.Ordered.{acts_at, acts-more}
use Rattle.ft_held_waits.proofs.held.dispatches_of.Goals as goal

pub loop-event-preserved : goal.loop-event-preserved
loop-event-preserved c =
    let xs = c.args.events.now in
    let i = c.loop-event.event-index in
    subst (λ (acts : List (Pos × Act)). Tells c.take_event.new.tasks acts c.take_event.new.out.items)
    (sym (acts-more xs i c.event-item.result c.loop-event-test.true c.event-item.is))
    (c.in_ok-take_event.ensures (acts_at (take i xs)) [] c.loop-event.invariant)
