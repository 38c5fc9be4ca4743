use Rattle.std.proofs.Common.{rules, ◌≡◌, sym, ap, subst, ◌∙◌, List, Some, Result, Ok, Err}
use Rattle.std.specs.Option.{IfSome}
use Rattle.std.specs.Result.{IfOk, result_ok}
use Rattle.ft_board.specs.inner.Reported.{IsReportBy}
use Rattle.ft_base.specs.Base.{Triggers}
use Rattle.ft_kept.specs.Report.{report_of}
use Rattle.ft_kept.specs.Shelves.{Shelves}
use Rattle.ft_kept.specs.declared.changes.KeyChange.{KeyChange}
use Rattle.ft_board.proofs.views.Views.report.Goals as goal

-- what holds of an answer, if it is not refused, holds of what is made of it
if_answered : {T E : Type 0} (P Q : T → Type 0) (answer : Result T E) → ((t : T) → P t → Q t) → IfOk answer P → IfSome (result_ok answer) Q
if_answered P Q (Ok t) then is = then t is
if_answered P Q (Err e) then is = tt

pub returns-clause-rows : goal.returns-clause-rows
returns-clause-rows c =
    let shelves : Shelves = c.in_ok-tables.tables.now in
    let keys : List KeyChange = c.in_ok-keys.keys.now in
    let there : c.args.self.now.shelves ≡ Some shelves = search rules in
    let are_told : c.args.changes.now.keys ≡ Some keys = search rules in
    subst (λ o. IfSome o (λ rows. IsReportBy c.args.content.now.triggers c.args.self.now.shelves c.args.changes.now.keys rows.items)) (sym c.ok.ensures.value)
    (if_answered (λ rows. rows.items ≡ report_of c.triggers.result.now shelves keys) (λ rows. IsReportBy c.args.content.now.triggers c.args.self.now.shelves c.args.changes.now.keys rows.items) c.changed_rows.result
    (λ rows is. record {
      shelves = shelves;
      keys = keys;
      there = there;
      are_told = are_told;
      are = is ∙ ap (λ (triggers : Triggers). report_of triggers shelves keys) c.triggers.ensures;
    })
    c.changed_rows.ensures)
