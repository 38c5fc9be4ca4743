use Rattle.ft_quick.proofs.Marked.{other_marked}
use Rattle.ft_quick.proofs.marks.next_other.Goals as goal

pub returns : goal.returns
returns c = other_marked c.args.marks c.args.from c.in_ok-at.at c.ranges.marks.fits c.in_ok-at.ensures
