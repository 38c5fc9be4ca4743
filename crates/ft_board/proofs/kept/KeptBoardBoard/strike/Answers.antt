use Rattle.std.proofs.Common.{◌≡◌, ℕ, Some, Ok, refl, sym, ap, subst, ◌∙◌}
use Rattle.std.proofs.lemmas.Option.{same_Some}
use Rattle.ft_lanes.specs.Held.{event_at, Lanes}
use Rattle.ft_base.specs.After.{after_strike}
use Rattle.ft_base.specs.declared.refused.Place.{Place}
use Rattle.ft_base.proofs.Cases.{strike-place}
use Rattle.ft_answers.specs.Deferral.{IsPlainHit}
use Rattle.ft_repair.proofs.Repaired.{still_there}
use Rattle.ft_shelves.specs.declared.sign.Sign.TheVariants.{Retract}
use Rattle.ft_board.proofs.Changes.{costs_of, kept_after, strikes}
use Rattle.ft_board.proofs.Reports.{board_reports}
use Rattle.ft_answers.specs.Costs.{CostsOf}
use Rattle.ft_answers.specs.Counting.{MakesNothing}
use Rattle.ft_answers.specs.Shown.{Shown}
use Rattle.ft_base.specs.Base.{Base}
use Rattle.ft_fields.specs.Traced.{Traced}
use Rattle.ft_replay.specs.Merged.{merged}
use Rattle.ft_board.proofs.kept.KeptBoardBoard.strike.Goals as goal

-- the event that goes is the one that is held there
held : (base : Base) (place : Place) (lanes : Lanes) (event : Traced) → lanes ≡ base.lanes → Some event ≡ event_at lanes place.cpu place.line → event_at base.lanes place.cpu place.line ≡ Some event
held base place lanes event is found = ap (λ (l : Lanes). event_at l place.cpu place.line) (sym is) ∙ sym found

-- and the one of the line that was asked for
same_event : (shown : Shown) (base : Base) (cpu line : ℕ) (after : Base) (place : Place) (event its : Traced) → base ≡ shown.base → after_strike base cpu line ≡ Ok (after, place)
    → event_at shown.base.lanes cpu line ≡ Some event → event_at base.lanes place.cpu place.line ≡ Some its → event ≡ its
same_event shown base cpu line after place event its is gives there stands =
    let asked : ◌≡◌ {A = Place} (record { cpu = cpu; line = line }) place = strike-place base cpu line after place gives in
    same_Some _ _ (sym there ∙ (λ i. event_at (sym is i).lanes (asked i).cpu (asked i).line) ∙ stands)

pub change-done-requires-clause-held : goal.change-done-requires-clause-held
change-done-requires-clause-held c =
    let goes = strikes c.self.inside.content _ c.in_ok-place.place c.in-Some.event (held c.self.inside.content _ _ _ c.lanes.ensures.lanes c.in-Some.ensures) refl _ c.pos_at-pos.ensures in
    goes.held

pub invariant_of-self : goal.invariant_of-self
invariant_of-self c =
    let by = (strikes c.self.inside.content c.strike.new.self c.in_ok-place.place c.in-Some.event (held c.self.inside.content _ _ _ c.lanes.ensures.lanes c.in-Some.ensures) c.strike.ensures _ c.pos_at-pos.ensures).by in
    kept_after Retract c.self.inside.content _ _ by c.change-done.new.self c.change-done.ensures.after

pub returns-clause-repairs : goal.returns-clause-repairs
returns-clause-repairs c event there nothing =
    let base : Base = c.self.inside.content in
    let place : Place = c.in_ok-place.place in
    let stands = held base place _ c.in-Some.event c.lanes.ensures.lanes c.in-Some.ensures in
    let by = (strikes base c.strike.new.self place c.in-Some.event stands c.strike.ensures _ c.pos_at-pos.ensures).by in
    let same = same_event c.args.self.now base c.args.cpu c.args.line _ place event c.in-Some.event (ap (λ (s : Shown). s.base) c.self.view_is) c.in_ok-place.ensures.gives there stands in
    let none : MakesNothing base.triggers = subst (λ (s : Shown). MakesNothing s.base.triggers) (sym c.self.view_is) nothing in
    subst (λ (p : Shown × Traced). CostsOf p.0.base.triggers p.1 (merged p.0.base.lanes) (merged c.strike.new.self.lanes) p.0.steps c.change-done.new.self.work) (λ i. (c.self.view_is i, sym same i))
    (costs_of Retract base _ _ by c.in-Some.event c.self.inside.views.work c.change-done.new.self.work (c.change-done.ensures.costs none))

pub returns-clause-now : goal.returns-clause-now
returns-clause-now c event there plain up =
    let base : Base = c.self.inside.content in
    let place : Place = c.in_ok-place.place in
    let stands = held base place _ c.in-Some.event c.lanes.ensures.lanes c.in-Some.ensures in
    let same = same_event c.args.self.now base c.args.cpu c.args.line _ place event c.in-Some.event (ap (λ (s : Shown). s.base) c.self.view_is) c.in_ok-place.ensures.gives there stands in
    let hits : IsPlainHit base.triggers c.in-Some.event = subst (λ (p : Shown × Traced). IsPlainHit p.0.base.triggers p.1) (λ i. (sym c.self.view_is i, same i)) plain in
    still_there c.self.inside.views.shelves c.change-done.new.self.shelves (c.change-done.ensures.now hits) (ap (λ (s : Shown). s.deferred) c.self.view_is ∙ up)

pub returns-clause-reports : goal.returns-clause-reports
returns-clause-reports c =
    let by = (strikes c.self.inside.content c.strike.new.self c.in_ok-place.place c.in-Some.event (held c.self.inside.content _ _ _ c.lanes.ensures.lanes c.in-Some.ensures) c.strike.ensures _ c.pos_at-pos.ensures).by in
    board_reports _ c.change-done.new.self c.change-done.result c.args.self.now (ap (λ (s : Shown). s.base) (sym c.self.view_is)) (c.change-done.ensures.reports _ by)
