use Rattle.std.proofs.Common.{◌++◌, sym, ◌∙◌}
use Rattle.std.proofs.lemmas.Result.{IfOk-weaker}
use Rattle.ft_hist.specs.Hist.{Hist}
use Rattle.ft_table.specs.Tabled.{Tabled}
use Rattle.ft_table.specs.Text.{heading, rows_text}
use Rattle.ft_answers.specs.Answers.{tally_text}
use Rattle.ft_replay.proofs.Shown.{rows-tally, totals-tally}
use Rattle.ft_answers.proofs.tables.table_text.Goals as goal

pub returns : goal.returns
unfolding tally_text
returns c =
    let hist : Hist = c.args.trigger.now in
    let table : Tabled = c.args.table.now in
    let law = c.one_row_order.ensures in
    IfOk-weaker c.text.result _ _ (λ text is pairs.
    is
    ∙ (λ i. heading hist ++ rows_text hist (sym (rows-tally law.permutation law.sorted law.alone table pairs hist.sort) i) (sym (totals-tally table pairs) i))) c.text.ensures
