use Rattle.std.proofs.Common.{subst, sym, ◌++◌, List, take}
use Rattle.std.proofs.lemmas.List.{append-nil, take_all}
use Rattle.ft_dispatch.specs.declared.showing.Showing.{Showing}
use Rattle.ft_windows.specs.Telling.{Keeps}
use Rattle.ft_windows.proofs.Keeping.{next-showing}
use Rattle.ft_windows.proofs.windows.Windows.show_all.Goals as goal

pub loop-showing-init : goal.loop-showing-init
loop-showing-init c = λ events showings keeps. subst (Keeps c.args.self.now events) (sym (append-nil showings)) keeps

pub loop-showing-preserved : goal.loop-showing-preserved
loop-showing-preserved c = λ events showings keeps.
    subst (Keeps c.show.new.self events)
    (next-showing showings c.args.more.now c.loop-showing.showing-index (record { from = 0; at = 0 }) c.loop-showing-test.true)
    (c.in_ok-show.ensures events (showings ++ take c.loop-showing.showing-index c.args.more.now) (c.loop-showing.invariant events showings keeps))

pub returns : goal.returns
returns c = λ events showings keeps.
    subst (λ (more : List Showing). Keeps c.loop-showing.self events (showings ++ more)) (take_all c.loop-showing.showing-index c.args.more.now c.loop-showing-test.false) (c.loop-showing.invariant events showings keeps)
