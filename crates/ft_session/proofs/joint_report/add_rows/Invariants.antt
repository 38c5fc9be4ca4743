use Rattle.std.proofs.Common.{◌≡◌, ℕ, List, drop}
use Rattle.std.specs.Prelude.{◌||◌}
use Rattle.ft_fields.specs.declared.key.Part.{Part}
use Rattle.ft_changes.specs.Reports.{is_reported}
use Rattle.ft_session.specs.inner.JointReports.{names}
use Rattle.ft_session.proofs.joint_report.add_rows.Given as goal

-- with the rows that are left there are all
abbrev pub invariant-loop-row : goal.invariant-loop-row
invariant-loop-row l = (id : ℕ) (key : List Part) → (names l.rows id key || is_reported (drop l.row-index l.named) id key) ≡ (names l.initial.rows id key || is_reported l.named id key)
