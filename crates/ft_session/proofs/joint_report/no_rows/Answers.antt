use Rattle.std.proofs.Common.{ap, sym, ◌∙◌}
use Rattle.std.specs.Prelude.{is_some}
use Rattle.std.specs.FinMap as map
use Rattle.std.specs.FinMap.{FinMap, get-empty}
use Rattle.std.proofs.lemmas.Bool.{true≢false}
use Rattle.ft_maps.specs.Seen.{seen-empty}
use Rattle.ft_session.specs.inner.JointReports.{row_cmp}
use Rattle.ft_session.proofs.joint_report.no_rows.Goals as goal

pub returns-then-reports : goal.returns-then-reports
returns-then-reports c = (
  λ id key.
      ap (λ (m : FinMap row_cmp (Unit {0})). is_some (map.get m (record { id = id; key = key }))) (seen-empty row_cmp c.new.result c.new.ensures.empty)
      ∙ ap is_some (get-empty row_cmp (record { id = id; key = key })),
  λ silent. absurd (true≢false (sym c.if-reports.true ∙ silent)),
)
