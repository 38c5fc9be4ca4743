use Rattle.std.proofs.Common.{◌≡◌, ◌++◌}
use Rattle.std.specs.List.{flat_map}
use Rattle.ft_kept.specs.Report.{keys_reported, rows_at, rows_by}
use Rattle.ft_kept.proofs.report.changed_rows.Given as goal

-- with the rows of the triggers that are left they are all
abbrev pub invariant-loop-id : goal.invariant-loop-id
invariant-loop-id l = l.rows.items ++ flat_map (λ t. rows_at t.0 (keys_reported l.tables l.changes t)) l.id-iterator ≡ rows_by (keys_reported l.tables l.changes) l.triggers
