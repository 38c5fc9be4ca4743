use Rattle.std.proofs.Common.{sym, ap, ◌∙◌}
use Rattle.ft_hits.specs.Marks.{mark_cmp_total, mark_same}
use Rattle.ft_table.proofs.Orders.{key_in, after_lacking, after_listed}
use Rattle.ft_table.proofs.order.after.Goals as goal

pub returns-in-Some-clause-there : goal.returns-in-Some-clause-there
returns-in-Some-clause-there c i at has =
    ap key_in (sym c.in-Some.is ∙ c.after.ensures.after) ∙ after_listed mark_cmp_total c.args.marks.now c.after.ensures.ordered c.args.mark.now i has at

pub returns-in-Some-clause-gone : goal.returns-in-Some-clause-gone
returns-in-Some-clause-gone c i at lacks =
    ap key_in (sym c.in-Some.is ∙ c.after.ensures.after) ∙ after_lacking mark_cmp_total mark_same c.args.marks.now c.args.mark.now i lacks at

pub returns-in-None-clause-there : goal.returns-in-None-clause-there
returns-in-None-clause-there c i at has =
    ap key_in (sym c.in-None.is ∙ c.after.ensures.after) ∙ after_listed mark_cmp_total c.args.marks.now c.after.ensures.ordered c.args.mark.now i has at

pub returns-in-None-clause-gone : goal.returns-in-None-clause-gone
returns-in-None-clause-gone c i at lacks =
    ap key_in (sym c.in-None.is ∙ c.after.ensures.after) ∙ after_lacking mark_cmp_total mark_same c.args.marks.now c.args.mark.now i lacks at
