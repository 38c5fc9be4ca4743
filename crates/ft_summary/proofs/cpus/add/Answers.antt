use Rattle.std.proofs.Common.{ap, ◌∙◌, cond, nat_eq, Some}
use Rattle.std.specs.Cmp.{unsigned_tied}
use Rattle.ft_summary.specs.inner.Changes.{found_cpu}
use Rattle.ft_summary.specs.declared.cpus.Cpu.{Cpu}
use Rattle.ft_summary.proofs.cpus.add.Goals as goal

pub returns-clause-finds : goal.returns-clause-finds
returns-clause-finds c = λ q.
    let cpu = c.args.turn.now.place.cpu in
    c.in_ok-insert.ensures.updates.0 q ∙ ap (λ b. cond b (Some c.first.result) (found_cpu c.args.cpus.now q)) (unsigned_tied cpu q)
    ∙ ap (λ (v : Cpu). cond (nat_eq cpu q) (Some v) (found_cpu c.args.cpus.now q)) c.first.ensures
