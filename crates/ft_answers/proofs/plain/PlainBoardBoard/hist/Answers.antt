-- The board is left as it is, and the answer is that of its base.
use Rattle.std.proofs.Common.{false, ap, subst}
use Rattle.ft_lanes.specs.Held.{Lanes}
use Rattle.ft_hist.specs.Triggers.{Triggers}
use Rattle.ft_answers.specs.Edited.{AnswerIs, AnswerKeeps}
use Rattle.ft_answers.specs.Answers.{hist_text, hist_from}
use Rattle.ft_replay.specs.Merged.{merged}
use Rattle.ft_answers.specs.Shown.{Shown}
use Rattle.ft_answers.proofs.AnswerSteps.{never-deferred, replayed_steps}
use Rattle.ft_answers.proofs.plain.PlainBoardBoard.hist.Goals as goal

pub returns-clause-gives : goal.returns-clause-gives
unfolding hist_text
returns-clause-gives c =
    let same = subst (λ (held : Triggers × Lanes). AnswerIs (λ text. text.items) (hist_from held.0 (merged held.1) c.args.id) c.hist_from.result) (λ i. (c.triggers-triggers.ensures i, c.lanes-lanes.ensures.lanes i)) c.hist_from.ensures.gives in (
      ap (λ (s : Shown). s.base) c.self.view_is,
      subst (λ (s : Shown). AnswerIs (λ text. text.items) (hist_text s.base c.args.id) c.hist_from.result) c.self.view_is same,
      subst (λ (s : Shown). AnswerKeeps s.deferred false c.hist_from.result) c.self.view_is (never-deferred c.hist_from.result),
    )

pub returns-clause-steps : goal.returns-clause-steps
returns-clause-steps c = replayed_steps c.self.inside.content c.self.inside.work c.hist_from.new.work c.args.self.now c.self.view_is c.hist_from.ensures.grow
