use Rattle.ft_quick.proofs.Marked.{equal_marked}
use Rattle.ft_quick.proofs.marks.places_of.Goals as goal

pub returns : goal.returns
returns c = λ k within. equal_marked c.args.bytes c.args.byte k c.fits-bytes.0 within
