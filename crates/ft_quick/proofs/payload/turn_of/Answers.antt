use Rattle.std.proofs.Common.{◌+◌, ◌-◌, ℕ, List, take, drop, refl, arith, w32}
use Rattle.std.proofs.lemmas.Int.{to_z-of_z}
use Rattle.std.proofs.lemmas.List.{length-drop, take_rest}
use Rattle.ft_fields.specs.Borrowed.{name_bytes}
use Rattle.ft_fields.specs.declared.event.Turn.{Turn}
use Rattle.ft_quick.proofs.Labels.{taken_short, taken_some}
use Rattle.ft_quick.proofs.PayloadCuts.{turn_found, same_turn, nothing_left}
use Rattle.ft_quick.proofs.payload.turn_of.Goals as goal

pub returns : goal.returns
returns c =
    let from : ℕ → List ℕ = λ n. drop n c.args.line.now in
    let state : List ℕ = take (c.in_ok-end.end - c.in_ok-state.state) (from c.in_ok-state.state) in
    let long = length-drop c.in_ok-state.state c.args.line.now in
    let read : Turn = record {
      prev_comm = name_bytes c.in_ok-prev_comm.prev_comm;
      prev_pid = c.in_ok-prev_comm.prev_pid;
      prev_prio = c.in_ok-prev_comm.prev_prio;
      prev_state = state;
      next_comm = name_bytes c.in_ok-next_comm.next_comm;
      next_pid = c.in_ok-next_comm.next_pid;
      next_prio = c.in_ok-next_comm.next_prio;
    } in
    turn_found (from c.args.at) (from c.in_ok-name.name) (from c.in_ok-prev_comm.at) (from c.in_ok-state.state) (from (c.in_ok-end.end + 1)) (from c.in_ok-at.at) (from c.in_ok-next_comm.at) _ read c.in_ok-name.ensures.cut c.in_ok-prev_comm.ensures.task c.in_ok-state.ensures.cut c.in_ok-end.ensures.until
    (taken_some (c.in_ok-end.end - c.in_ok-state.state) (from c.in_ok-state.state) c.if-len-eq0.false (omega (arith, long, c.in_ok-end.ensures.within))) (taken_short (c.in_ok-end.end - c.in_ok-state.state) (from c.in_ok-state.state) c.if-len-gt31.false) c.in_ok-at.ensures.cut c.in_ok-next_comm.ensures.task (nothing_left c.args.line.now c.in_ok-next_comm.at c.if-at-line.false)
    (same_turn _ read refl (to_z-of_z w32 _ c.in_ok-prev_comm.ensures.task.pid_fits) (to_z-of_z w32 _ c.in_ok-prev_comm.ensures.task.prio_fits) (rw take_rest at c.new-prev_state.ensures) refl
    (to_z-of_z w32 _ c.in_ok-next_comm.ensures.task.pid_fits) (to_z-of_z w32 _ c.in_ok-next_comm.ensures.task.prio_fits))
