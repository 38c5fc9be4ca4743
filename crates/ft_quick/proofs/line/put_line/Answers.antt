use Rattle.std.proofs.Common.{sym}
use Rattle.ft_fields.specs.Borrowed.{event_told}
use Rattle.ft_quick.proofs.BodyCuts.{put_found}
use Rattle.ft_quick.proofs.line.put_line.Goals as goal

pub returns-in-Some-clause-exact : goal.returns-in-Some-clause-exact
returns-in-Some-clause-exact c = λ put. sym (c.one_answer.ensures.only c.args.line.now _ (put_found c.args.line.now c.in-Some.front (event_told c.put_event.new.event) c.in-Some.ensures.front (c.put_event.ensures put)))

pub returns-in-Some-clause-meaning : goal.returns-in-Some-clause-meaning
returns-in-Some-clause-meaning c = λ put. put_found c.args.line.now c.in-Some.front (event_told c.put_event.new.event) c.in-Some.ensures.front (c.put_event.ensures put)
