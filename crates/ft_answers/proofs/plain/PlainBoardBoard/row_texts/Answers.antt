-- The board is left as it is, and the answer is that of its base.
use Rattle.std.proofs.Common.{false, ap, subst}
use Rattle.ft_lanes.specs.Held.{Lanes}
use Rattle.ft_hist.specs.Triggers.{Triggers}
use Rattle.ft_answers.specs.Edited.{AnswerIs, AnswerKeeps}
use Rattle.ft_answers.specs.Answers.{row_texts_shown, row_texts_from}
use Rattle.ft_replay.specs.Merged.{merged}
use Rattle.ft_answers.specs.Shown.{Shown}
use Rattle.ft_answers.proofs.AnswerSteps.{never-deferred, replayed_steps}
use Rattle.ft_answers.proofs.plain.PlainBoardBoard.row_texts.Goals as goal

pub returns-clause-gives : goal.returns-clause-gives
unfolding row_texts_shown
returns-clause-gives c =
    let same = subst (λ (held : Triggers × Lanes). AnswerIs (λ rows. rows.items) (row_texts_from held.0 (merged held.1) c.args.id) c.row_texts_from.result) (λ i. (c.triggers-triggers.ensures i, c.lanes-lanes.ensures.lanes i)) c.row_texts_from.ensures.gives in (
      ap (λ (s : Shown). s.base) c.self.view_is,
      subst (λ (s : Shown). AnswerIs (λ rows. rows.items) (row_texts_shown s.base c.args.id) c.row_texts_from.result) c.self.view_is same,
      subst (λ (s : Shown). AnswerKeeps s.deferred false c.row_texts_from.result) c.self.view_is (never-deferred c.row_texts_from.result),
    )

pub returns-clause-steps : goal.returns-clause-steps
returns-clause-steps c = replayed_steps c.self.inside.content c.self.inside.work c.row_texts_from.new.work c.args.self.now c.self.view_is c.row_texts_from.ensures.grow
