use Rattle.std.proofs.Common.{ℤ, ap, ◌∙◌, cond, ◌||◌, rules}
use Rattle.std.specs.Ordering.{int_eq}
use Rattle.std.proofs.lemmas.Result.{on_ok_weaker}
use Rattle.ft_dispatch.specs.Telling.{known, handover_of}
use Rattle.ft_dispatch.specs.inner.Changes.{ran_at, left_at, seen_if}
use Rattle.ft_dispatch.proofs.Acting.{switch-knows}
use Rattle.ft_dispatch.proofs.taking.switch.Goals as goal

pub returns-clause-knows : goal.returns-clause-knows
returns-clause-knows c =
    let turn = c.args.turn.now in
    let place = turn.place in
    let old = known c.args.tasks.now in
    on_ok_weaker c.dispatch.result (λ pushed. λ (pid : ℤ).
    c.in_ok-see_another.ensures pid
    ∙ ap (λ s. cond (int_eq turn.pid pid || int_eq turn.prev_pid pid) s (seen_if (int_eq turn.by pid) place s))
    (c.in_ok-since.ensures.ran pid ∙ ap (λ (p : ℤ). cond (int_eq p pid) (ran_at place) (known c.set.new.tasks pid)) (search rules) ∙ ap (λ s. cond (int_eq turn.pid pid) (ran_at place) s)
    (c.in_ok-set.ensures pid ∙ ap (λ (p : ℤ). cond (int_eq p pid) (left_at c.leaving.result (old pid)) (old pid)) (search rules) ∙ ap (λ l. cond (int_eq turn.prev_pid pid) (left_at l (old pid)) (old pid)) c.leaving.ensures))
    ∙ switch-knows (int_eq turn.pid pid) (int_eq turn.prev_pid pid) (int_eq turn.by pid) place (handover_of turn) (old pid)) c.dispatch.ensures
