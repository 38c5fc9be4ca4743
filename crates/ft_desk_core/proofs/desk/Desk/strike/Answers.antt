use Rattle.std.proofs.Common.{ap, sym, subst, ◌∙◌}
use Rattle.ft_answers.specs.Deferral.{IsPlainHit}
use Rattle.ft_answers.specs.Held.{event_at}
use Rattle.ft_answers.specs.Shown.{Shown}
use Rattle.ft_desk_core.proofs.desk.Desk.strike.Goals as goal

pub returns-clause-now : goal.returns-clause-now
returns-clause-now g c event there plain up =
    c.strike.ensures.now event (ap (λ (s : Shown). event_at s.base.lanes c.args.cpu c.args.line) c.self.view_is ∙ there)
    (subst (λ (s : Shown). IsPlainHit s.base.triggers event) (sym c.self.view_is) plain)
    (ap (λ (s : Shown). s.deferred) c.self.view_is ∙ up)
