use Rattle.std.proofs.Common.{sym}
use Rattle.ft_fields.specs.Borrowed.{event_told}
use Rattle.ft_quick.proofs.BodyCuts.{put_found}
use Rattle.ft_quick.proofs.line.cut_line.Goals as goal

pub returns-then-put_event-clause-exact : goal.returns-then-put_event-clause-exact
returns-then-put_event-clause-exact c = sym (c.one_answer.ensures.only c.args.line.now _ (put_found c.args.line.now c.in_ok-front.front (event_told c.put_event.new.event) c.in_ok-front.ensures.front (c.put_event.ensures c.if-put_event.true)))

pub returns-then-put_event-clause-meaning : goal.returns-then-put_event-clause-meaning
returns-then-put_event-clause-meaning c = put_found c.args.line.now c.in_ok-front.front (event_told c.put_event.new.event) c.in_ok-front.ensures.front (c.put_event.ensures c.if-put_event.true)
