use Rattle.ft_replay.specs.Merged.{merged}
use Rattle.ft_answers.specs.Answers.{tally_row_text}
use Rattle.ft_answers.specs.inner.Counts.{counted_table}
use Rattle.ft_answers.proofs.Answering.{answered}
use Rattle.ft_answers.proofs.answers.row_text_from.Goals as goal

pub returns-clause-gives : goal.returns-clause-gives
returns-clause-gives c =
    answered c.args.triggers.now (merged c.args.lanes.now) c.args.id c.in_ok-trigger.trigger.now c.in_ok-trigger.ensures.there
    (counted_table c.in_ok-counted.counted) c.table.result.now c.table.ensures c.in_ok-counted.ensures.tally
    (λ hist tally. tally_row_text hist tally c.args.key.now) _ c.in_ok-table_row_text.ensures
