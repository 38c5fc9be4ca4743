use Rattle.std.proofs.Common.{drop}
use Rattle.ft_fields.specs.Borrowed.{event_told}
use Rattle.ft_quick.proofs.BodyCuts.{switch_put, waking_put, wakeup_put, wakeup_new_put}
use Rattle.ft_quick.proofs.payload.put_event.Goals as goal

pub returns-in-Some-behind : goal.returns-in-Some-behind
returns-in-Some-behind c = λ put. switch_put (drop c.args.front.now.rest c.args.line.now) (drop c.in-Some.label c.args.line.now) (drop c.in-Some-behind.at c.args.line.now) c.args.front.now (event_told c.put_turn.new.event) c.in-Some.ensures.cut c.in-Some-behind.ensures.cut (c.put_turn.ensures put)

pub returns-in-Some-behind-2 : goal.returns-in-Some-behind-2
returns-in-Some-behind-2 c = λ put. waking_put (drop c.args.front.now.rest c.args.line.now) (drop c.in-Some.label c.args.line.now) (drop c.in-Some-behind-2.at c.args.line.now) c.args.front.now (event_told c.put_wake.new.event) c.in-Some.ensures.cut c.in-Some-behind-2.ensures.cut (c.put_wake.ensures put)

pub returns-in-Some-behind-3 : goal.returns-in-Some-behind-3
returns-in-Some-behind-3 c = λ put. wakeup_put (drop c.args.front.now.rest c.args.line.now) (drop c.in-Some.label c.args.line.now) (drop c.in-Some-behind-3.at c.args.line.now) c.args.front.now (event_told c.put_wake-in-Some-behind-3.new.event) c.in-Some.ensures.cut c.in-Some-behind-3.ensures.cut (c.put_wake-in-Some-behind-3.ensures put)

pub returns-in-Some-behind-4 : goal.returns-in-Some-behind-4
returns-in-Some-behind-4 c = λ put. wakeup_new_put (drop c.args.front.now.rest c.args.line.now) (drop c.in-Some.label c.args.line.now) (drop c.in-Some-behind-4.at c.args.line.now) c.args.front.now (event_told c.put_wake-in-Some-behind-4.new.event) c.in-Some.ensures.cut c.in-Some-behind-4.ensures.cut (c.put_wake-in-Some-behind-4.ensures put)
