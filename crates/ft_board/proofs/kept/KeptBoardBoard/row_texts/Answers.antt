use Rattle.std.proofs.lemmas.Result.{err_from_is_err_and}
use Rattle.ft_answers.specs.Answers.{row_texts_shown, tally_row_texts}
use Rattle.ft_board.proofs.KeptBoardTold.{unattached, shown_by, told_by}
use Rattle.ft_board.proofs.kept.KeptBoardBoard.row_texts.Goals as goal

pub returns-in_err-catch_up-clause-gives : goal.returns-in_err-catch_up-clause-gives
unfolding row_texts_shown
returns-in_err-catch_up-clause-gives c =
    let p = err_from_is_err_and c.from_residual.result c.from_residual.ensures.1 in
    unattached (λ rows. rows.items) c.args.self.now c.catch_up.new.self c.args.id (shown_by tally_row_texts c.args.self.now.base c.args.id) c.in_err-catch_up.field-0.0 c.in_err-catch_up.ensures.refused c.from_residual.result (cc (p.1, p.2))

pub returns-clause-gives : goal.returns-clause-gives
unfolding row_texts_shown
returns-clause-gives c =
    told_by (λ rows. rows.items) c.args.self.now c.catch_up.new.self c.args.id tally_row_texts c.in_ok-told.told c.catch_up.ensures.same c.in_ok-told.ensures.tells
    c.as_table.result.now c.as_table.ensures c.in_ok-table_row_texts.field-0 c.in_ok-table_row_texts.ensures c.in_ok-told.ensures.now
