use Rattle.std.proofs.Common.{◌+◌, arith, sym, subst, Some}
use Rattle.std.specs.Map.{keys_of}
use Rattle.ft_table.specs.inner.Ordered.{IsEdged}
use Rattle.ft_table.proofs.AtEdge.{came_in}
use Rattle.ft_table.proofs.order.Front.with.Goals as goal

pub returns-then-self-size : goal.returns-then-self-size
returns-then-self-size c old i came is =
    subst (λ l. IsEdged c.args.size (keys_of c.args.marks.now) (c.args.self.now.count + 1) (Some l)) (sym c.later.ensures)
    (came_in c.args.size old (keys_of c.args.marks.now) c.args.self.now.count c.args.mark.now i c.args.self.now.last came is c.if-self-size.true)

pub returns : goal.returns
returns c old i came is = c.last_with.ensures old c.args.size c.args.self.now.count i came is (λ lt. let full = c.if-self-size.false in omega (arith, lt, full))
