use Rattle.ft_quick.proofs.Marked.{first_of_many}
use Rattle.ft_quick.proofs.marks.first_bytes.Goals as goal

pub returns : goal.returns
returns c = first_of_many c.args.line.now c.if-line-lt64.false
