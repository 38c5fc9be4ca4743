use Rattle.std.proofs.Common.{List, sym, ap, ◌∙◌}
use Rattle.std.proofs.lemmas.Result.{IfOk-weaker}
use Rattle.ft_hist.specs.Hist.{Hist}
use Rattle.ft_hist.specs.declared.item.SortItem.{SortItem}
use Rattle.ft_table.specs.Tabled.{Tabled}
use Rattle.ft_table.specs.Rows.{rows_of}
use Rattle.ft_answers.specs.Answers.{tally_rows}
use Rattle.ft_replay.proofs.Shown.{rows-tally}
use Rattle.ft_answers.proofs.tables.table_rows.Goals as goal

pub returns : goal.returns
unfolding tally_rows
returns c =
    let hist : Hist = c.args.trigger.now in
    let table : Tabled = c.args.table.now in
    let law = c.one_row_order.ensures in
    IfOk-weaker c.rows.result _ _ (λ rows is pairs. is ∙ ap (λ (sort : List SortItem). rows_of table sort) c.sort.ensures.value ∙ sym (rows-tally law.permutation law.sorted law.alone table pairs hist.sort)) c.rows.ensures
