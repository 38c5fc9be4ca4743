use Rattle.std.proofs.Common.{◌≡◌, ℕ, ap, sym, subst, ◌∙◌, inr, List, Result, Ok, Err}
use Rattle.std.proofs.lemmas.Result.{err_from_is_err_and}
use Rattle.ft_fields.specs.declared.pos.Pos.{Pos}
use Rattle.ft_lanes.specs.Held.{Lanes}
use Rattle.ft_answers.specs.Places.{lane_places}
use Rattle.ft_base.specs.declared.refused.Refused.{Refused}
use Rattle.ft_answers.specs.Base.{Base}
use Rattle.ft_answers.specs.Shown.{Shown}
use Rattle.ft_desk_core.specs.Found.{lane_found}
use Rattle.ft_desk_core.proofs.Found.{lane-none, lane-there}
use Rattle.ft_desk_core.proofs.desk.Desk.lane.Goals as goal

pub returns-in_err-lane : goal.returns-in_err-lane
returns-in_err-lane g c =
    let base : Base = c.content-content.result.now in
    let base_is : base ≡ c.args.self.now.base = c.content-content.ensures ∙ ap (λ (s : Shown). s.base) c.self.view_is in
    let p = err_from_is_err_and c.from_residual.result c.from_residual.ensures.1 in
    let refused : Refused = c.in_err-lane.field-0.0 in
    let none : lane_found c.args.self.now.base c.args.cpu c.args.line ≡ Err refused = subst (λ (b : Base). lane_found b c.args.cpu c.args.line ≡ Err refused) base_is (lane-none base c.args.cpu c.args.line refused c.in_err-lane.ensures.gives) in
    rw (p.1, p.2) (inr none)

pub returns : goal.returns
returns g c =
    let base : Base = c.content-content.result.now in
    let base_is : base ≡ c.args.self.now.base = c.content-content.ensures ∙ ap (λ (s : Shown). s.base) c.self.view_is in
    let there : lane_found base c.args.cpu c.args.line ≡ Ok (lane_places base.lanes c.args.cpu c.args.line) = lane-there base c.args.cpu c.args.line _ c.in_ok-lane.ensures.gives in
    ap (λ (b : Base). lane_found b c.args.cpu c.args.line) (sym base_is)
    ∙ there
    ∙ ap (λ (l : Lanes). let a : Result (List Pos) Refused = Ok (lane_places l c.args.cpu c.args.line) in a) (sym c.lanes.ensures.lanes)
    ∙ ap (λ (cpu : ℕ). let a : Result (List Pos) Refused = Ok (lane_places c.lanes.result.now cpu c.args.line) in a) (sym c.in_ok-lane.ensures.same)
    ∙ ap (λ (l : List Pos). let a : Result (List Pos) Refused = Ok l in a) (sym c.in_ok-lane_places.ensures)
