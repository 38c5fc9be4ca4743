use Rattle.std.proofs.Common.{take, sym, subst, ◌++◌, List, reverse}
use Rattle.std.proofs.lemmas.List.{take_all}
use Rattle.ft_fields.specs.declared.pos.Pos.{Pos}
use Rattle.ft_dispatch.specs.Acts.{Act}
use Rattle.ft_dispatch.specs.Telling.{entries_of}
use Rattle.ft_dispatch.specs.declared.act.PlacedAct.{PlacedAct}
use Rattle.ft_summary.specs.Telling.{Tells, TakesAll}
use Rattle.ft_summary.proofs.Taking.{entries-more}
use Rattle.ft_summary.proofs.summary.Summary.take_all.Goals as goal

pub loop-one-init : goal.loop-one-init
loop-one-init c = λ before tells. tells

pub loop-one-preserved : goal.loop-one-preserved
loop-one-preserved c =
    let i = c.loop-one.one-index in
    let xs = c.args.acts.now in
    let one = c.one-item.result in
    λ before tells.
    subst (λ (es : List (Pos × Act)). Tells c.take.new.self (es ++ before)) (sym (entries-more xs i one c.loop-one-test.true c.one-item.is))
    (c.in_ok-take.ensures (reverse (entries_of (take i xs)) ++ before) (c.loop-one.invariant before tells))

pub returns : goal.returns
returns c =
    let xs = c.args.acts.now in
    subst (λ (ys : List PlacedAct). TakesAll (entries_of ys) c.args.self.now c.loop-one.self) (take_all c.loop-one.one-index xs c.loop-one-test.false) c.loop-one.invariant
