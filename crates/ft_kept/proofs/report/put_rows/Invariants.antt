use Rattle.std.proofs.Common.{◌≡◌, ◌++◌, drop}
use Rattle.ft_kept.specs.Report.{rows_at}
use Rattle.ft_kept.proofs.report.put_rows.Given as goal

-- with the rows of the keys that are left they are all
abbrev pub invariant-loop-key : goal.invariant-loop-key
invariant-loop-key l = l.rows.items ++ rows_at l.id (drop l.key-index l.keys) ≡ l.fn.rows.items ++ rows_at l.id l.keys
