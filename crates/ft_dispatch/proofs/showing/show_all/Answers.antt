use Rattle.std.proofs.Common.{pos}
use Rattle.ft_dispatch.specs.Showings.{shown_by, first_by}
use Rattle.ft_dispatch.specs.Telling.{known}
use Rattle.ft_dispatch.specs.declared.showing.FirstWaking.{FirstWaking}
use Rattle.ft_dispatch.proofs.Unsaid.{added-more}
use Rattle.ft_dispatch.proofs.showing.show_all.Goals as goal

pub loop-first-preserved : goal.loop-first-preserved
loop-first-preserved c =
    let i = c.loop-first.first-index in
    let xs = c.args.firsts.now in
    let now = c.loop-first.shown in
    let new = c.show_first.new.shown in
    let old = c.args.shown.now in
    let none : FirstWaking = record { pid = pos 0; at = 0 } in
    let known_now = known c.args.tasks.now in (
      added-more (shown_by known_now) xs i none old.showings.items now.showings.items new.showings.items c.loop-first-test.true c.loop-first.invariant.0 c.in_ok-show_first.ensures.showings,
      added-more (first_by known_now) xs i none old.firsts.items now.firsts.items new.firsts.items c.loop-first-test.true c.loop-first.invariant.1 c.in_ok-show_first.ensures.firsts,
    )
