use Rattle.ft_quick.proofs.Marked.{digits_near}
use Rattle.ft_quick.proofs.marks.digits_end.Goals as goal

pub returns-clause-digits : goal.returns-clause-digits
returns-clause-digits c = digits_near c.args.line.now c.near_digits-places.result c.args.at c.in_ok-len.len (rw c.eight_at.ensures at c.near_digits-places.ensures) c.in_ok-len.ensures c.if-len-gt7.false
