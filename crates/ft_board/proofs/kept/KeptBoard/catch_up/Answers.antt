use Rattle.std.proofs.Common.{◌≡◌, is_some, refl, sym, ap, ◌∙◌, Err}
use Rattle.std.specs.Option.{is_none}
use Rattle.std.specs.FinMap as map
use Rattle.std.proofs.lemmas.Result.{err_from_is_err_and}
use Rattle.ft_board.proofs.KeptBoardTold.{none_is}
use Rattle.ft_answers.specs.Shown.{Shown}
use Rattle.ft_base.specs.Base.{Triggers}
use Rattle.ft_board.proofs.kept.KeptBoard.catch_up.Goals as goal

pub returns-in_err-find_trigger-clause-refused : goal.returns-in_err-find_trigger-clause-refused
returns-in_err-find_trigger-clause-refused c =
    let p = err_from_is_err_and c.from_residual.result c.from_residual.ensures.1 in
    let none = c.in_err-find_trigger.ensures.refused in
    let gone = ap (λ (s : Shown). map.get s.base.triggers c.args.id) (sym c.self.view_is) ∙ ap (λ (t : Triggers). map.get t c.args.id) (sym c.triggers.ensures) ∙ none.1 in
    let is : c.from_residual.result ≡ Err c.in_err-find_trigger.field-0.0 = cc (p.1, p.2) in
    rw is (none.0, (gone, refl))

pub returns-clause-attached : goal.returns-clause-attached
returns-clause-attached c = ap is_some (ap (λ (t : Triggers). map.get t c.args.id) (sym c.triggers.ensures) ∙ c.in_ok-find_trigger.ensures.there)

pub returns-clause-back : goal.returns-clause-back
returns-clause-back c up = ap (λ (s : Shown). s.deferred) (sym c.self.view_is) ∙ ap is_none (c.catch_up.ensures.now (none_is c.catch_up.new.self.shelves up)).0
