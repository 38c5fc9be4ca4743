use Rattle.std.proofs.Common.{◌≡◌, ℕ, ap, rules, subst, sym}
use Rattle.ft_fields.specs.Traced.{Traced}
use Rattle.ft_session.specs.inner.Fronts.{IsPosOf}
use Rattle.ft_session.proofs.Fronts.{pos_found}
use Rattle.ft_session.proofs.front.pos_of.Goals as goal

pub returns-in-Ok-try_from : goal.returns-in-Ok-try_from
returns-in-Ok-try_from c =
    let same : c.in-Ok-try_from.cpu ≡ c.args.place.now.cpu = search rules in
    subst (λ (stamp : ℕ). IsPosOf c.args.desk.now.base c.args.place.now (record { stamp = stamp; cpu = c.in-Ok-try_from.cpu; line = c.args.place.now.line })) (ap (λ (x : Traced). x.stamp) (sym c.event-2.view_is))
    (pos_found c.args.desk.now.base c.args.place.now c.in-Ok-try_from.cpu c.in-Ok.event same c.in-Ok.ensures)
