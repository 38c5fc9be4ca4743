use Rattle.std.proofs.Common.{◌∙◌}
use Rattle.ft_maps.specs.Seen.{seen}
use Rattle.ft_session.specs.inner.JointReports.{row_cmp, row_same}
use Rattle.ft_session.proofs.RowSets.{row_joins}
use Rattle.ft_session.proofs.joint_report.add_rows.Goals as goal

pub put-requires : goal.put-requires
put-requires c = row_same

pub loop-row-preserved : goal.loop-row-preserved
loop-row-preserved c id key =
    row_joins (seen row_cmp c.loop-row.rows) (seen row_cmp c.put.new.map) c.args.named.now c.loop-row.row-index c.row-item.result c.loop-row-test.true c.row-item.is c.in_ok-put.ensures.ok id key
    ∙ c.loop-row.invariant id key
