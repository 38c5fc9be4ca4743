use Rattle.std.proofs.Common.{length, ◌-◌}
use Rattle.ft_quick.proofs.Labels.{last_cut}
use Rattle.ft_quick.proofs.cuts.before.Goals as goal

pub returns-then-is_same : goal.returns-then-is_same
returns-then-is_same g c = last_cut c.args.text.now c.args.label.now c.in_ok-front.front.now c.in_ok-front.last.now (length c.args.text.now - g.row.N) c.in_ok-front.ensures.cases.0 c.in_ok-front.ensures.cases.1 (c.is_same.ensures c.if-is_same.true)
