use Rattle.std.proofs.Common.{map as list_map, sym, ap, ◌∙◌}
use Rattle.std.proofs.lemmas.Result.{IfOk-weaker}
use Rattle.ft_hist.specs.Hist.{Hist}
use Rattle.ft_table.specs.Tabled.{Tabled}
use Rattle.ft_table.specs.Text.{keyed_text}
use Rattle.ft_answers.specs.Answers.{tally_row_texts}
use Rattle.ft_replay.proofs.Shown.{rows-tally}
use Rattle.ft_answers.proofs.tables.table_row_texts.Goals as goal

pub returns : goal.returns
unfolding tally_row_texts
returns c =
    let hist : Hist = c.args.trigger.now in
    let table : Tabled = c.args.table.now in
    let law = c.one_row_order.ensures in
    IfOk-weaker c.keyed_rows.result _ _ (λ rows is pairs. is ∙ ap (list_map (keyed_text hist)) (sym (rows-tally law.permutation law.sorted law.alone table pairs hist.sort))) c.keyed_rows.ensures
