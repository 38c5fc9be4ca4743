use Rattle.std.proofs.Common.{◌≡◌, ap, sym, subst, ◌∙◌, Option, Err}
use Rattle.std.specs.Prelude.{ok_or}
use Rattle.std.proofs.lemmas.Result.{err_from_is_err_and}
use Rattle.ft_fields.specs.Traced.{Traced}
use Rattle.ft_lanes.specs.Held.{Lanes, event_at}
use Rattle.ft_base.specs.declared.refused.Refused.{Refused}
use Rattle.ft_base.specs.declared.refused.Refused.TheVariants.{NoEvent}
use Rattle.ft_answers.specs.Base.{Base}
use Rattle.ft_answers.specs.Shown.{Shown}
use Rattle.ft_desk_core.specs.Found.{event_found}
use Rattle.ft_desk_core.proofs.Found.{event-none, event-got}
use Rattle.ft_desk_core.proofs.desk.Desk.event.Goals as goal

pub returns-in_err-place : goal.returns-in_err-place
returns-in_err-place g c =
    let base : Base = c.content-content.result.now in
    let base_is : base ≡ c.args.self.now.base = c.content-content.ensures ∙ ap (λ (s : Shown). s.base) c.self.view_is in
    let p = err_from_is_err_and c.from_residual.result c.from_residual.ensures.1 in
    let refused : Refused = c.in_err-place.field-0.0 in
    let given : c.from_residual.result ≡ Err refused = cc (p.1, p.2) in
    given ∙ sym (event-none base c.args.cpu c.args.line refused c.in_err-place.ensures.gives) ∙ ap (λ (b : Base). event_found b c.args.cpu c.args.line) base_is

pub returns : goal.returns
returns g c =
    let base : Base = c.content-content.result.now in
    let base_is : base ≡ c.args.self.now.base = c.content-content.ensures ∙ ap (λ (s : Shown). s.base) c.self.view_is in
    let place = c.in_ok-place.place in
    c.ok_or.ensures.value
    ∙ ap (λ (o : Option Traced). ok_or o NoEvent) (c.get.ensures ∙ ap (λ (l : Lanes). event_at l place.cpu place.line) c.lanes.ensures.lanes)
    ∙ event-got base _ c.args.cpu c.args.line place c.in_ok-place.ensures.gives c.in_ok-place.ensures.held
    ∙ ap (λ (b : Base). event_found b c.args.cpu c.args.line) base_is
