use Rattle.std.proofs.Common.{ℕ, List, drop, arith, refl, w32}
use Rattle.std.proofs.lemmas.Int.{ints, to_z-of_z}
use Rattle.ft_fields.specs.Borrowed.{name_bytes}
use Rattle.ft_quick.proofs.PayloadCuts.{wake_found, nothing_left}
use Rattle.ft_quick.proofs.payload.wake_of.Goals as goal

pub returns : goal.returns
returns c =
    let from : ℕ → List ℕ = λ n. drop n c.args.line.now in
    let small = c.in_ok-target_cpu.ensures.number.below in
    wake_found (from c.args.at) (from c.in_ok-name.name) (from c.in_ok-comm.at) (from c.in_ok-behind.field-0) (name_bytes c.in_ok-comm.comm) (from c.in_ok-target_cpu.at) c.in_ok-comm.pid c.in_ok-comm.prio c.in_ok-target_cpu.target_cpu _ c.in_ok-name.ensures.cut c.in_ok-comm.ensures.task c.in_ok-behind.ensures.cut
    c.in_ok-target_cpu.ensures.number (nothing_left c.args.line.now c.in_ok-target_cpu.at c.if-at-line.false) refl (to_z-of_z w32 _ c.in_ok-comm.ensures.task.pid_fits) (to_z-of_z w32 _ c.in_ok-comm.ensures.task.prio_fits) (omega (arith, ints))
