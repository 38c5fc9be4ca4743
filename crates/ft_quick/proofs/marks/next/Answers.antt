use Rattle.ft_quick.proofs.Marked.{next_marked}
use Rattle.ft_quick.proofs.marks.next.Goals as goal

pub returns : goal.returns
returns c = next_marked c.args.marks c.args.from c.ranges.marks.fits c.if-left-eq0.false
