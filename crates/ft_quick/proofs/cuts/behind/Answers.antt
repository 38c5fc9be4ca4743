use Rattle.std.proofs.lemmas.List.{take_rest}
use Rattle.ft_quick.proofs.Places.{label_here}
use Rattle.ft_quick.proofs.cuts.behind.Goals as goal

pub returns-then-is_same-clause-cut : goal.returns-then-is_same-clause-cut
returns-then-is_same-clause-cut g c = label_here c.args.line.now c.args.label.now c.in_ok-front.front.now c.args.at g.row.N (rw take_rest at c.in_ok-front.ensures.cases.0) (c.is_same.ensures c.if-is_same.true)
