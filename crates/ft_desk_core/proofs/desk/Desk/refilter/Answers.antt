use Rattle.std.proofs.Common.{refl, ap, sym, ◌∙◌, inl, inr, rules}
use Rattle.std.specs.Prelude.{ok_or}
use Rattle.std.specs.Option.{option_copied}
use Rattle.std.proofs.lemmas.Result.{err_from_is_err_and}
use Rattle.ft_base.specs.declared.refused.Refused.TheVariants.{NoTrigger}
use Rattle.ft_answers.specs.Shown.{Shown}
use Rattle.ft_desk_core.proofs.Edits.{name_at, refilter-none, refilter-refused, refilter-filter}
use Rattle.ft_desk_core.proofs.desk.Desk.refilter.Goals as goal

pub returns-clause-gives : goal.returns-clause-gives
returns-clause-gives g c =
    let named = ap (λ (s : Shown). name_at s.base c.args.id) (sym c.self.view_is) ∙ sym c.name_of.ensures ∙ c.in_ok-event.ensures.ok_part in
    rw (refilter-filter c.args.self.now.base c.args.id (option_copied c.args.text) _ _ named c.in_ok-filter.ensures.reads) (search rules)

pub returns-in_err-event-clause-gives : goal.returns-in_err-event-clause-gives
returns-in_err-event-clause-gives g c =
    let same = err_from_is_err_and c.from_residual.result c.from_residual.ensures.1 in
    let none = c.in_err-event.ensures.ok_part in
    let unnamed = ap (λ (s : Shown). name_at s.base c.args.id) (sym c.self.view_is) ∙ sym c.name_of.ensures ∙ none in
    let why = c.in_err-event.ensures.value ∙ ap (λ name. ok_or name NoTrigger) none in
    rw (same.1, same.2) (refl, refl, inr (refilter-none c.args.self.now.base c.args.id (option_copied c.args.text) _ unnamed (sym why)))

pub returns-in_err-filter-clause-gives : goal.returns-in_err-filter-clause-gives
returns-in_err-filter-clause-gives g c =
    let same = err_from_is_err_and c.from_residual-in_err-filter.result c.from_residual-in_err-filter.ensures.1 in
    let named = ap (λ (s : Shown). name_at s.base c.args.id) (sym c.self.view_is) ∙ sym c.name_of.ensures ∙ c.in_ok-event.ensures.ok_part in
    rw (same.1, same.2) (
      refl,
      refl,
      elim c.in_err-filter.ensures.reads [
        | inl memory ↦ inl memory
        | inr bad ↦ inr (refilter-refused c.args.self.now.base c.args.id (option_copied c.args.text) _ _ named bad)
      ],
    )
