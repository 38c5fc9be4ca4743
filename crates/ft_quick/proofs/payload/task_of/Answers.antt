use Rattle.std.proofs.Common.{ℕ, List, drop, w32}
use Rattle.std.proofs.lemmas.Int.{to_z-of_z}
use Rattle.ft_fields.specs.Borrowed.{name_bytes}
use Rattle.ft_quick.proofs.PayloadCuts.{task_cut}
use Rattle.ft_quick.proofs.payload.task_of.Goals as goal

pub returns-clause-task : goal.returns-clause-task
returns-clause-task g c =
    let from : ℕ → List ℕ = λ n. drop n c.args.line.now in
    task_cut c.args.pid_label.now c.args.prio_label.now (from c.args.at) (name_bytes c.in_ok-comm.comm) (from c.in_ok-comm.at) (from c.in_ok-pid.at) (from c.in_ok-behind.field-0) (from c.in_ok-prio.at) c.in_ok-pid.pid c.in_ok-prio.prio _ _ c.in_ok-comm.ensures.name
    c.in_ok-pid.ensures.signed c.in_ok-behind.ensures.cut c.in_ok-prio.ensures.signed (to_z-of_z w32 _ c.in_ok-pid.ensures.signed.fits) (to_z-of_z w32 _ c.in_ok-prio.ensures.signed.fits)
