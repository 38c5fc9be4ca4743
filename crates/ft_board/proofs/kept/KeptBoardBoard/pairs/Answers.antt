use Rattle.std.proofs.Common.{rules, ◌≡◌, true, false, not, refl, sym, ap, subst, ◌∙◌, inr, List, Some, Result, Ok}
use Rattle.std.proofs.lemmas.Result.{err_from_is_err_and}
use Rattle.std.specs.FinMap as map
use Rattle.ft_kept.specs.Shelves.{Readings}
use Rattle.ft_base.specs.Roles.{is_reader}
use Rattle.ft_answers.specs.Answers.{pairs_shown}
use Rattle.ft_board.proofs.KeptBoardTold.{pairs_by, pairs-unread, pairs-told, unattached}
use Rattle.ft_answers.specs.Shown.{Shown}
use Rattle.ft_base.specs.Base.{Base, Triggers}
use Rattle.ft_base.specs.declared.refused.Refused.{Refused}
use Rattle.ft_hist.specs.Hist.{Hist}
use Rattle.ft_replay.specs.Found.{pairs_in}
use Rattle.ft_replay.specs.declared.pair.Pair.{Pair}
use Rattle.ft_board.proofs.kept.KeptBoardBoard.pairs.Goals as goal

pub returns-in_err-trigger-clause-gives : goal.returns-in_err-trigger-clause-gives
unfolding pairs_shown
returns-in_err-trigger-clause-gives c =
    let p = err_from_is_err_and c.from_residual.result c.from_residual.ensures.1 in
    let none = c.in_err-trigger.ensures.refused in
    let gone = ap (λ (s : Shown). map.get s.base.triggers c.args.id) (sym c.self.view_is) ∙ ap (λ (t : Triggers). map.get t c.args.id) (sym c.triggers.ensures) ∙ none.1 in
    unattached (λ l. l.items) c.args.self.now c.args.self.now c.args.id (pairs_by c.args.self.now.base c.args.id) c.in_err-trigger.field-0.0 (none.0, (gone, refl)) c.from_residual.result (cc (p.1, p.2))

pub returns-then-not-is_reader-clause-gives : goal.returns-then-not-is_reader-clause-gives
returns-then-not-is_reader-clause-gives c =
    let hist : Hist = c.in_ok-trigger.trigger.now in
    let there : map.get c.args.self.now.base.triggers c.args.id ≡ Some hist =
    ap (λ (s : Shown). map.get s.base.triggers c.args.id) (sym c.self.view_is) ∙ ap (λ (t : Triggers). map.get t c.args.id) (sym c.triggers.ensures) ∙ c.in_ok-trigger.ensures.there in
    let other : is_reader hist.variable ≡ false = search rules in
    (refl, inr (pairs-unread c.args.self.now.base c.args.id hist there other), (λ e. e, λ _. refl))

pub returns-clause-gives : goal.returns-clause-gives
returns-clause-gives c =
    let base : Base = c.self.inside.content in
    let hist : Hist = c.in_ok-trigger.trigger.now in
    let reads : is_reader hist.variable ≡ true = search rules in
    let there : map.get base.triggers c.args.id ≡ Some hist = subst (λ (t : Triggers). map.get t c.args.id ≡ Some hist) c.triggers.ensures c.in_ok-trigger.ensures.there in
    let gives : pairs_shown base c.args.id ≡ Ok c.in_ok-pairs_of.field-0.items =
    pairs-told base c.args.id hist there reads c.in_ok-shelf.shelf.now (c.in_ok-shelf.ensures.tells base hist c.catch_up.ensures.fresh there)
    ∙ ap (λ (l : List Pair). let given : Result (List Pair) Refused = Ok l in given) (ap (λ (r : Readings). pairs_in r) (sym c.readings.ensures) ∙ sym c.in_ok-pairs_of.ensures) in
    let base_is = ap (λ (s : Shown). s.base) c.self.view_is in
    (base_is, subst (λ (b : Base). pairs_shown b c.args.id ≡ Ok c.in_ok-pairs_of.field-0.items) base_is gives, ap not c.in_ok-shelf.ensures.there)
