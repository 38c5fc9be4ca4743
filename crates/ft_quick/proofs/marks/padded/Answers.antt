use Rattle.ft_quick.proofs.Marked.{first_of_few}
use Rattle.ft_quick.proofs.marks.padded.Goals as goal

pub returns : goal.returns
returns c = first_of_few c.args.line.now c.copy_from_slice.new.self c.requires c.copy_from_slice.ensures.after
