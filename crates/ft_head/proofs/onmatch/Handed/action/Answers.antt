use Rattle.std.proofs.Common.{◌≡◌, inr, sym, subst, ◌∙◌, Ok, Err}
use Rattle.std.proofs.lemmas.Result.{err_from_is_err_and}
use Rattle.ft_head.specs.Draft.{action_of}
use Rattle.ft_head.specs.Onmatch.{Handed}
use Rattle.ft_head.proofs.Actions.{action_stop, action_made}
use Rattle.ft_head.proofs.onmatch.Handed.action.Goals as goal

pub returns-in_err-prio : goal.returns-in_err-prio
returns-in_err-prio c =
    let words : Handed = record { event = c.self.inside.event; own = c.self.inside.own.now; pid = c.self.inside.pid.now; prio = c.self.inside.prio.now } in
    let p = err_from_is_err_and c.from_residual-in_err-prio.result c.from_residual-in_err-prio.ensures.1 in
    rw (p.1, p.2) (inr (subst (λ (h : Handed). action_of c.args.event h ≡ Err c.in_err-prio.field-0.0) c.self.view_is
    (action_stop c.args.event words c.in_ok-pid.pid c.in_err-prio.field-0.0 (sym c.number_field.ensures ∙ c.in_ok-pid.was) (sym c.number_field-2.ensures ∙ c.in_err-prio.was))))

pub returns : goal.returns
returns c =
    let words : Handed = record { event = c.self.inside.event; own = c.self.inside.own.now; pid = c.self.inside.pid.now; prio = c.self.inside.prio.now } in
    subst (λ (h : Handed). action_of c.args.event h ≡ Ok (record { own = c.self.inside.own.now; onmatch = record { event = c.self.inside.event; pid = c.in_ok-pid.pid; prio = c.in_ok-prio.prio } })) c.self.view_is
    (action_made c.args.event words c.in_ok-pid.pid c.in_ok-prio.prio (sym c.number_field.ensures ∙ c.in_ok-pid.was) (sym c.number_field-2.ensures ∙ c.in_ok-prio.was))
