use Rattle.std.specs.FinMap as map
use Rattle.ft_board.proofs.Changes.{lane_among}
use Rattle.ft_board.proofs.MadeShelves.{among_same, can_mend, mended_if}
use Rattle.ft_base.specs.Base.{Base}
use Rattle.ft_board.specs.inner.Views.{made_in}
use Rattle.ft_replay.specs.Merged.{merged}
use Rattle.ft_board.proofs.views.Views.let_lane_go.Goals as goal

pub mend-requires : goal.mend-requires
mend-requires c =
    let base : Base = c.args.content.now in
    can_mend c.kept_shelves.ensures.readings base.triggers (merged base.lanes) (merged base.lanes) (among_same (merged base.lanes)) c.changes_to_report.result.readings c.let_lane_go.new.changes.readings
    c.args.self.now.shelves c.let_lane_go.new.kept (made_in c.args.self.now) c.changes_to_report.ensures.readings c.requires c.let_lane_go.ensures.deferred c.let_lane_go.ensures.reread

pub returns-clause-fresh : goal.returns-clause-fresh
returns-clause-fresh c =
    let base : Base = c.args.content.now in
    mended_if c.kept_shelves.ensures.readings base.triggers (merged (map.remove base.lanes c.args.cpu)) (merged base.lanes) (lane_among base.lanes c.args.cpu)
    c.let_lane_go.new.kept c.mend.new.self.shelves (made_in c.mend.new.self) c.mend.ensures.shelves c.let_lane_go.ensures.kept c.mend.ensures.made
