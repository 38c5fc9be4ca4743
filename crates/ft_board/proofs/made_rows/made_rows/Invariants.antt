use Rattle.std.proofs.Common.{◌≡◌, ◌++◌}
use Rattle.std.specs.List.{flat_map}
use Rattle.std.specs.Ordering.{nat_cmp}
use Rattle.ft_hist.specs.Steps.{StepsGrow}
use Rattle.ft_kept.specs.Report.{rows_at, rows_by}
use Rattle.ft_board.specs.inner.MadeRows.{keys_counted}
use Rattle.ft_maps.specs.Seen.{seen}
use Rattle.ft_replay.specs.Merged.{merged}
use Rattle.ft_board.proofs.made_rows.made_rows.Given as goal

-- with the rows of the triggers that are left they are all; no count of steps fell
abbrev pub invariant-loop-id : goal.invariant-loop-id
invariant-loop-id l =
    let keys = keys_counted l.content.triggers (merged l.content.lanes) l.rereading.changes.now (seen nat_cmp l.made) in
    record {
      rows : l.rows.items ++ flat_map (λ t. rows_at t.0 (keys t)) l.id-iterator ≡ rows_by keys l.content.triggers;
      grow : StepsGrow l.fn.work l.work;
    }
