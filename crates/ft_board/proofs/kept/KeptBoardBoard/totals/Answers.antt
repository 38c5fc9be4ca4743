use Rattle.std.proofs.Common.{sym, ◌∙◌}
use Rattle.std.proofs.lemmas.Result.{err_from_is_err_and}
use Rattle.ft_table.specs.declared.row.Totals.{Totals}
use Rattle.ft_replay.specs.Tally.{totals_in}
use Rattle.ft_replay.proofs.Shown.{totals-tally}
use Rattle.ft_answers.specs.Answers.{totals}
use Rattle.ft_board.proofs.KeptBoardTold.{unattached, shown_by, told_by}
use Rattle.ft_board.proofs.kept.KeptBoardBoard.totals.Goals as goal

pub returns-in_err-catch_up-clause-gives : goal.returns-in_err-catch_up-clause-gives
unfolding totals
returns-in_err-catch_up-clause-gives c =
    let p = err_from_is_err_and c.from_residual.result c.from_residual.ensures.1 in
    unattached (λ (t : Totals). t) c.args.self.now c.catch_up.new.self c.args.id (shown_by (λ _. totals_in) c.args.self.now.base c.args.id) c.in_err-catch_up.field-0.0 c.in_err-catch_up.ensures.refused c.from_residual.result (cc (p.1, p.2))

pub returns-clause-gives : goal.returns-clause-gives
unfolding totals
returns-clause-gives c =
    told_by (λ (t : Totals). t) c.args.self.now c.catch_up.new.self c.args.id (λ _. totals_in) c.in_ok-told.told c.catch_up.ensures.same c.in_ok-told.ensures.tells
    c.as_table.result.now c.as_table.ensures c.totals.result (λ pairs. c.totals.ensures ∙ sym (totals-tally c.as_table.result.now pairs)) c.in_ok-told.ensures.now
