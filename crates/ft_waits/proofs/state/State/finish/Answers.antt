use Rattle.std.proofs.lemmas.Result.{on_ok_weaker}
use Rattle.ft_waits.specs.Reading.{acts_of}
use Rattle.ft_waits.specs.inner.Known.{left_out_by}
use Rattle.ft_waits.proofs.Ordering.{all-settled}
use Rattle.ft_waits.proofs.state.State.finish.Goals as goal

pub returns-clause-told : goal.returns-clause-told
returns-clause-told c = on_ok_weaker c.settle.result (λ settles events told follows.
    (all-settled c.args.self.now.acts c.settle.new.acts c.args.self.now.sums c.settle.new.sums c.args.self.now.latest events (acts_of (left_out_by c.args.self.now.left_out.items) events) told c.args.out.now.items c.settle.new.out.items settles follows.orders).0) c.settle.ensures

pub returns-clause-sums : goal.returns-clause-sums
returns-clause-sums c = on_ok_weaker c.settle.result (λ settles events told follows.
    (all-settled c.args.self.now.acts c.settle.new.acts c.args.self.now.sums c.settle.new.sums c.args.self.now.latest events (acts_of (left_out_by c.args.self.now.left_out.items) events) told c.args.out.now.items c.settle.new.out.items settles follows.orders).1) c.settle.ensures

pub returns-clause-wanted : goal.returns-clause-wanted
returns-clause-wanted c = on_ok_weaker c.settle.result (λ settles. settles.sums.wanted) c.settle.ensures

pub returns-clause-windows : goal.returns-clause-windows
returns-clause-windows c = on_ok_weaker c.settle.result (λ settles events told follows.
    (all-settled c.args.self.now.acts c.settle.new.acts c.args.self.now.sums c.settle.new.sums c.args.self.now.latest events (acts_of (left_out_by c.args.self.now.left_out.items) events) told c.args.out.now.items c.settle.new.out.items settles follows.orders).2) c.settle.ensures
