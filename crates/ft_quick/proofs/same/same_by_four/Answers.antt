use Rattle.std.proofs.Common.{arith}
use Rattle.ft_quick.proofs.Labels.{ends_same}
use Rattle.ft_quick.proofs.same.same_by_four.Goals as goal

pub returns-then-same_four : goal.returns-then-same_four
returns-then-same_four g c = λ few same.
    ends_same c.args.a.now c.args.b.now c.in_ok-a_first.a_first.now c.in_ok-b_first.b_first.now c.in_ok-a_last.a_last.now c.in_ok-b_last.b_last.now 4 g.row.N c.told-a c.told-b c.in_ok-a_first.ensures.cases.0 c.in_ok-b_first.ensures.cases.0
    (c.same_four.ensures c.if-same_four.true) c.in_ok-a_last.ensures.cases.1 c.in_ok-b_last.ensures.cases.1 (c.same_four-then-same_four.ensures same) (omega (arith, few))
