use Rattle.std.proofs.Common.{subst, List}
use Rattle.std.proofs.lemmas.List.{take_all}
use Rattle.ft_dispatch.specs.Holding.{TakesOn}
use Rattle.ft_dispatch.specs.declared.dispatch.Dispatch.{Dispatch}
use Rattle.ft_dispatch.proofs.Held.{none-taken, one-taken}
use Rattle.ft_dispatch.proofs.holding.FirstOnes.take_all.Goals as goal

pub loop-one-init : goal.loop-one-init
loop-one-init c = none-taken c.args.self.now c.args.out.now.items

pub loop-one-preserved : goal.loop-one-preserved
loop-one-preserved c =
    one-taken c.args.told.now c.loop-one.one-index c.one-item.result c.args.self.now c.args.out.now.items c.loop-one.self c.loop-one.out.items c.take.new.self c.take.new.out.items
    c.loop-one-test.true c.one-item.is c.loop-one.invariant c.in_ok-take.ensures

pub returns : goal.returns
returns c =
    subst (λ (ds : List Dispatch). TakesOn ds c.args.self.now c.args.out.now.items c.loop-one.self c.loop-one.out.items) (take_all c.loop-one.one-index c.args.told.now c.loop-one-test.false) c.loop-one.invariant
