use Rattle.std.proofs.Common.{sym, ap, ◌∙◌}
use Rattle.std.specs.Prelude.{option_map}
use Rattle.std.proofs.lemmas.Result.{IfOk-weaker}
use Rattle.ft_hist.specs.Hist.{Hist}
use Rattle.ft_table.specs.Tabled.{Tabled}
use Rattle.ft_table.specs.Text.{row_text}
use Rattle.ft_answers.specs.Answers.{tally_row_text}
use Rattle.ft_replay.proofs.Growing.{get-tally}
use Rattle.ft_answers.proofs.tables.table_row_text.Goals as goal

pub returns : goal.returns
unfolding tally_row_text
returns c =
    let hist : Hist = c.args.trigger.now in
    let table : Tabled = c.args.table.now in
    IfOk-weaker c.text_of_row.result _ _ (λ text is pairs. is ∙ ap (option_map (row_text hist)) (sym (get-tally table pairs c.args.key.now))) c.text_of_row.ensures
