use Rattle.std.proofs.Common.{sym, ap, subst, ◌∙◌}
use Rattle.ft_answers.specs.Deferral.{IsNoHit}
use Rattle.ft_repair.proofs.Repaired.{still_there}
use Rattle.ft_shelves.specs.declared.sign.Sign.TheVariants.{Insert}
use Rattle.ft_board.specs.inner.Views.{AreOf}
use Rattle.ft_board.proofs.Changes.{costs_of, inserts}
use Rattle.ft_board.proofs.Reports.{board_reports}
use Rattle.ft_answers.specs.Costs.{CostsOf}
use Rattle.ft_answers.specs.Counting.{MakesNothing}
use Rattle.ft_answers.specs.Shown.{Shown}
use Rattle.ft_base.specs.Base.{Triggers}
use Rattle.ft_replay.specs.Merged.{Events, merged}
use Rattle.ft_board.proofs.kept.KeptBoardBoard.insert.Goals as goal

pub change-requires-clause-held : goal.change-requires-clause-held
change-requires-clause-held c = (inserts c.self.inside.content c.insert.new.self c.args.event c.in_ok-place.place c.in_ok-place.ensures.reachable c.in_ok-place.ensures.gives _ c.pos_at-pos.ensures).held

pub change-requires-clause-before : goal.change-requires-clause-before
change-requires-clause-before c =
    let by = (inserts c.self.inside.content c.insert.new.self c.args.event c.in_ok-place.place c.in_ok-place.ensures.reachable c.in_ok-place.ensures.gives _ c.pos_at-pos.ensures).by in
    subst (λ (p : Triggers × Events). AreOf p.0 p.1 c.self.inside.views) (λ i. (by.same_before i, by.was i)) c.self.invariant

pub returns-clause-repairs : goal.returns-clause-repairs
returns-clause-repairs c nothing =
    let by = (inserts c.self.inside.content c.insert.new.self c.args.event c.in_ok-place.place c.in_ok-place.ensures.reachable c.in_ok-place.ensures.gives _ c.pos_at-pos.ensures).by in
    let none : MakesNothing c.insert.new.self.triggers = subst MakesNothing (ap (λ (s : Shown). s.base.triggers) (sym c.self.view_is) ∙ by.same_before) nothing in
    subst (λ (s : Shown). CostsOf s.base.triggers c.args.event (merged s.base.lanes) (merged c.insert.new.self.lanes) s.steps c.change.new.self.work) c.self.view_is
    (costs_of Insert c.insert.new.self _ _ by c.args.event c.self.inside.views.work c.change.new.self.work (c.change.ensures.costs none))

pub returns-clause-now : goal.returns-clause-now
returns-clause-now c missed up =
    let by = (inserts c.self.inside.content c.insert.new.self c.args.event c.in_ok-place.place c.in_ok-place.ensures.reachable c.in_ok-place.ensures.gives _ c.pos_at-pos.ensures).by in
    let hits : IsNoHit c.insert.new.self.triggers c.args.event = subst (λ (ts : Triggers). IsNoHit ts c.args.event) (ap (λ (s : Shown). s.base.triggers) (sym c.self.view_is) ∙ by.same_before) missed in
    still_there c.self.inside.views.shelves c.change.new.self.shelves (c.change.ensures.now hits) (ap (λ (s : Shown). s.deferred) c.self.view_is ∙ up)

pub returns-clause-reports : goal.returns-clause-reports
returns-clause-reports c =
    let by = (inserts c.self.inside.content c.insert.new.self c.args.event c.in_ok-place.place c.in_ok-place.ensures.reachable c.in_ok-place.ensures.gives _ c.pos_at-pos.ensures).by in
    board_reports _ c.change.new.self c.change.result c.args.self.now (ap (λ (s : Shown). s.base) (sym c.self.view_is)) (c.change.ensures.reports _ by)
