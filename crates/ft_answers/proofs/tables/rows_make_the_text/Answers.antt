use Rattle.ft_answers.proofs.OneRow.{row_is_among}
use Rattle.ft_answers.proofs.RowTexts.{rows_make_text}
use Rattle.ft_answers.proofs.tables.rows_make_the_text.Goals as goal

pub returns-clause-text : goal.returns-clause-text
returns-clause-text c = rows_make_text

pub returns-clause-row : goal.returns-clause-row
returns-clause-row c =
    let law = c.one_row_order.ensures in
    row_is_among law.permutation law.sorted law.alone c.made_counters.ensures.first c.counted_hits.ensures.tally c.made_tallies.ensures.tally
