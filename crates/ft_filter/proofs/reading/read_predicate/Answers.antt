use Rattle.std.proofs.Common.{length, subst}
use Rattle.ft_filter.proofs.Shorter.{LeavesLess, pred_less}
use Rattle.ft_filter.proofs.reading.read_predicate.Goals as goal

pub returns-clause-shorter : goal.returns-clause-shorter
returns-clause-shorter c = subst (LeavesLess (length c.args.text.now)) c.in_ok-parsed.ensures (pred_less c.args.source.event c.args.source.len c.args.text.now)
