use Rattle.ft_quick.proofs.Marked.{pair_marked}
use Rattle.ft_quick.proofs.marks.next_pair.Goals as goal

pub returns : goal.returns
returns c = pair_marked c.args.firsts c.args.seconds c.args.from c.in_ok-at.at c.ranges.seconds.fits c.in_ok-at.ensures
