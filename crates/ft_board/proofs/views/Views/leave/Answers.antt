-- a trigger goes that leaves alone those that make events: the tables of the others stay
use Rattle.std.proofs.Common.{sym, subst}
use Rattle.ft_base.specs.OneTrigger.{base_without}
use Rattle.ft_board.proofs.MadeStays.{left_if}
use Rattle.ft_board.proofs.MadeShelves.{AreRightIf}
use Rattle.ft_base.specs.Base.{Base}
use Rattle.ft_board.specs.MadeShelves.{MadeTables}
use Rattle.ft_board.specs.inner.Views.{made_in}
use Rattle.ft_replay.specs.Merged.{merged}
use Rattle.ft_board.proofs.views.Views.leave.Goals as goal

pub returns-clause-fresh : goal.returns-clause-fresh
returns-clause-fresh c leaves =
    let base : Base = c.args.content.now in
    let new : Base = base_without base c.args.id in
    subst (λ (made : MadeTables). AreRightIf new.triggers (merged new.lanes) c.leave.new.kept made) (sym c.take.ensures)
    (left_if c.made_events_stay.ensures.events base c.args.id c.args.self.now.shelves c.leave.new.kept (made_in c.args.self.now)
    c.requires.unread leaves c.requires.fresh c.leave.ensures.kept c.leave.ensures.deferred)
