-- Each way through is a case of `after_remove` at the board's view.
use Rattle.std.proofs.Common.{◌≡◌, sym, ap, subst, ◌∙◌, None, Some, Ok}
use Rattle.std.specs.FinMap as map
use Rattle.ft_base.specs.contracts.content.Content.{the_view}
use Rattle.ft_base.specs.After.{after_remove, reader_on}
use Rattle.ft_base.specs.Base.{Base}
use Rattle.ft_base.specs.OneTrigger.{IsUnread}
use Rattle.ft_base.proofs.Cases.{remove-none, remove-in_use, remove-ok}
use Rattle.ft_base.proofs.Unread.{removable_unread}
use Rattle.ft_base.proofs.content.Content.removable.Goals as goal

pub returns-in_default-clause-gives : goal.returns-in_default-clause-gives
returns-in_default-clause-gives c = ap (λ b. after_remove b c.args.id) (sym c.self.view_is) ∙ remove-none (the_view c.self.inside) c.args.id (sym c.in_default.ensures)

pub returns-in-Some-reader_on-clause-gives : goal.returns-in-Some-reader_on-clause-gives
returns-in-Some-reader_on-clause-gives c =
    let base = the_view c.self.inside in
    let hist = c.in-Some.trigger.now in
    let reads : reader_on base.triggers hist.variable ≡ Some c.in-Some-reader_on.reader = sym (c.in-Some-reader_on.ensures ∙ ap (reader_on base.triggers) c.variable.ensures) in
    ap (λ b. after_remove b c.args.id) (sym c.self.view_is) ∙ remove-in_use base c.args.id hist c.in-Some-reader_on.reader (sym c.in-Some.ensures) reads

pub returns-clause-gives : goal.returns-clause-gives
returns-clause-gives c =
    let base = the_view c.self.inside in
    let hist = c.in-Some.trigger.now in
    let unread : reader_on base.triggers hist.variable ≡ None = sym (c.in_default-reader_on.ensures ∙ ap (reader_on base.triggers) c.variable.ensures) in
    subst (λ (b : Base). after_remove b c.args.id ≡ Ok (record b { triggers = map.remove b.triggers c.args.id }, c.args.id)) c.self.view_is (remove-ok base c.args.id hist (sym c.in-Some.ensures) unread)

pub returns-clause-unread : goal.returns-clause-unread
returns-clause-unread c =
    let base = the_view c.self.inside in
    let hist = c.in-Some.trigger.now in
    let unread : reader_on base.triggers hist.variable ≡ None = sym (c.in_default-reader_on.ensures ∙ ap (reader_on base.triggers) c.variable.ensures) in
    subst (λ (b : Base). IsUnread b.triggers c.args.id) c.self.view_is (removable_unread base c.args.id hist c.self.invariant (sym c.in-Some.ensures) unread)
