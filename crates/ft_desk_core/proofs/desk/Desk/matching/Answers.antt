use Rattle.std.proofs.Common.{◌≡◌, ap, sym, ◌∙◌, inl, inr, List, Result, Ok, Err}
use Rattle.std.proofs.lemmas.Result.{err_from_is_err_and}
use Rattle.ft_fields.specs.declared.event.Name.{Name}
use Rattle.ft_fields.specs.declared.pos.Pos.{Pos}
use Rattle.ft_lanes.specs.Held.{Lanes}
use Rattle.ft_answers.specs.Places.{matching_places}
use Rattle.ft_base.specs.declared.refused.Refused.{Refused}
use Rattle.ft_answers.specs.Shown.{Shown}
use Rattle.ft_desk_core.proofs.Found.{matching-refused, matching-read}
use Rattle.ft_desk_core.proofs.desk.Desk.matching.Goals as goal

pub returns-in_err-filter : goal.returns-in_err-filter
returns-in_err-filter g c =
    let p = err_from_is_err_and c.from_residual.result c.from_residual.ensures.1 in
    rw (p.1, p.2) (elim c.in_err-filter.ensures.reads [
      | inl memory ↦ inl memory
      | inr bad ↦ inr (matching-refused c.args.self.now.base c.args.event c.args.text.now _ bad)
    ])

pub returns : goal.returns
returns g c =
    let tree = c.in_ok-filter.filter.tree in
    let lanes_are : c.lanes.result.now ≡ c.args.self.now.base.lanes = c.lanes.ensures.lanes ∙ ap (λ b. b.lanes) (c.content.ensures ∙ ap (λ (s : Shown). s.base) c.self.view_is) in
    matching-read c.args.self.now.base c.args.event c.args.text.now tree c.in_ok-filter.ensures.reads
    ∙ ap (λ (l : Lanes). let a : Result (List Pos) Refused = Ok (matching_places l c.args.event tree) in a) (sym lanes_are)
    ∙ ap (λ (name : Name). let a : Result (List Pos) Refused = Ok (matching_places c.lanes.result.now name tree) in a) (sym c.in_ok-filter.ensures.event)
    ∙ ap (λ (l : List Pos). let a : Result (List Pos) Refused = Ok l in a) (sym c.in_ok-matching_places.ensures)
