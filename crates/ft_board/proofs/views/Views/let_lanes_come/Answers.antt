use Rattle.ft_replay.specs.Chosen.{lanes_of}
use Rattle.ft_board.proofs.Changes.{chosen_among}
use Rattle.ft_board.proofs.MadeShelves.{among_same, can_mend, mended_if}
use Rattle.ft_base.specs.Base.{Base}
use Rattle.ft_board.specs.inner.Views.{made_in}
use Rattle.ft_replay.specs.Merged.{merged}
use Rattle.ft_board.proofs.views.Views.let_lanes_come.Goals as goal

pub mend-requires : goal.mend-requires
mend-requires c =
    let base : Base = c.args.content.now in
    can_mend c.kept_shelves.ensures.readings base.triggers (merged (lanes_of c.args.before.now base.lanes)) (merged base.lanes) (chosen_among base.lanes c.args.before.now)
    c.changes_to_report.result.readings c.let_lanes_come.new.changes.readings c.args.self.now.shelves c.let_lanes_come.new.kept (made_in c.args.self.now) c.changes_to_report.ensures.readings c.requires c.let_lanes_come.ensures.deferred c.let_lanes_come.ensures.reread

pub returns-clause-fresh : goal.returns-clause-fresh
returns-clause-fresh c =
    let base : Base = c.args.content.now in
    mended_if c.kept_shelves.ensures.readings base.triggers (merged base.lanes) (merged base.lanes) (among_same (merged base.lanes)) c.let_lanes_come.new.kept c.mend.new.self.shelves (made_in c.mend.new.self)
    c.mend.ensures.shelves c.let_lanes_come.ensures.kept c.mend.ensures.made
