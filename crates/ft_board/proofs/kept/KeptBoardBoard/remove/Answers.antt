-- A trigger that reads nothing, and that no other reads, bears on no event that is made.
use Rattle.std.proofs.Common.{sym, subst, ◌∙◌}
use Rattle.std.proofs.lemmas.Bool.{true≢false}
use Rattle.ft_board.proofs.MadeStays.{unread_leaves}
use Rattle.ft_answers.specs.Deferral.{ReadsNothing}
use Rattle.ft_answers.specs.Shown.{Shown}
use Rattle.ft_base.specs.Base.{Triggers}
use Rattle.ft_board.specs.Makers.{LeavesMakers}
use Rattle.ft_board.proofs.kept.KeptBoardBoard.remove.Goals as goal

pub returns-then-bears-clause-now : goal.returns-then-bears-clause-now
returns-then-bears-clause-now c none =
    let triggers : Triggers = c.self.inside.content.triggers in
    let quiet : ReadsNothing triggers c.args.id = subst (λ (s : Shown). ReadsNothing s.base.triggers c.args.id) (sym c.self.view_is) none in
    absurd (true≢false (sym c.if-bears.true ∙ c.bears_on_makers-bears.ensures.some (subst (λ (ts : Triggers). LeavesMakers ts c.args.id) (sym c.triggers.ensures) (unread_leaves triggers c.args.id c.in_ok-removable.ensures.unread quiet))))
