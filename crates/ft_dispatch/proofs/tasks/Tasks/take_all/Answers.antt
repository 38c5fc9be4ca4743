use Rattle.std.proofs.Common.{take, sym, subst, ◌++◌, List, reverse}
use Rattle.std.proofs.lemmas.List.{take_all}
use Rattle.ft_fields.specs.declared.pos.Pos.{Pos}
use Rattle.ft_dispatch.specs.Acts.{Act}
use Rattle.ft_dispatch.specs.Telling.{act_from, entries_of, Tells, TakesAll, Shows, ShowsAll}
use Rattle.ft_dispatch.specs.declared.act.PlacedAct.{PlacedAct}
use Rattle.ft_dispatch.specs.declared.tasks.Tasks.{Tasks}
use Rattle.ft_dispatch.proofs.Acting.{tells-next, shows-next, entries-more}
use Rattle.ft_dispatch.proofs.tasks.Tasks.take_all.Goals as goal

pub loop-one-init : goal.loop-one-init
loop-one-init c = (λ before told tells. tells, λ before told given tells shows. shows)

pub loop-one-preserved : goal.loop-one-preserved
loop-one-preserved c =
    let i = c.loop-one.one-index in
    let xs = c.args.acts.now in
    let one = c.one-item.result in
    let new : Tasks = record { since = c.take.new.tasks } in
    let more = entries-more xs i one c.loop-one-test.true c.one-item.is in (
      λ before told tells.
          subst (λ (es : List (Pos × Act)). Tells new (es ++ before) (told ++ c.take.new.out.items)) (sym more)
          (tells-next c.loop-one.self new one.place (act_from one.kind one) (reverse (entries_of (take i xs)) ++ before) told c.loop-one.out.items c.take.new.out.items
          c.in_ok-take.ensures.knows c.in_ok-take.ensures.out (c.loop-one.invariant.0 before told tells)),
      λ before told given tells shows.
          subst (λ (es : List (Pos × Act)). Shows given c.show.new.shown (es ++ before)) (sym more)
          (shows-next c.loop-one.self one.place (act_from one.kind one) (reverse (entries_of (take i xs)) ++ before) (told ++ c.loop-one.out.items) given c.loop-one.shown c.show.new.shown
          c.in_ok-show.ensures.showings c.in_ok-show.ensures.firsts (c.loop-one.invariant.0 before told tells) (c.loop-one.invariant.1 before told given tells shows)),
    )

pub returns-clause-takes : goal.returns-clause-takes
returns-clause-takes c =
    let xs = c.args.acts.now in
    subst (λ (ys : List PlacedAct). TakesAll (entries_of ys) c.args.self.now c.args.out.now.items c.loop-one.self c.loop-one.out.items) (take_all c.loop-one.one-index xs c.loop-one-test.false) c.loop-one.invariant.0

pub returns-clause-shows : goal.returns-clause-shows
returns-clause-shows c =
    let xs = c.args.acts.now in
    subst (λ (ys : List PlacedAct). ShowsAll (entries_of ys) c.args.self.now c.args.out.now.items c.args.shown.now c.loop-one.shown) (take_all c.loop-one.one-index xs c.loop-one-test.false) c.loop-one.invariant.1
