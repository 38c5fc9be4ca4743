use Rattle.std.proofs.Common.{ℕ, List, drop}
use Rattle.ft_quick.proofs.ColumnCuts.{tail_found}
use Rattle.ft_quick.proofs.columns.Columns.tail.Goals as goal

pub returns-clause-tail : goal.returns-clause-tail
returns-clause-tail c =
    let from : ℕ → List ℕ = λ n. drop n c.args.self.now.line.now in
    tail_found (from c.args.at) (from c.in_ok-pid.at) (from c.in_ok-behind.field-0) (from c.in_ok-at.at) (from c.in_ok-behind-2.field-0) (from c.in_ok-cpu.at) (from c.in_ok-at-2.at) c.in_ok-pid.pid c.in_ok-cpu.cpu
    c.in_ok-pid.ensures.number c.in_ok-behind.ensures.cut c.in_ok-at.ensures.skip c.in_ok-behind-2.ensures.cut c.in_ok-cpu.ensures.number c.if-cpu-gt8191.false c.in_ok-at-2.ensures.cut
