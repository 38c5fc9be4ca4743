use Rattle.ft_quick.proofs.Marked.{near_marked}
use Rattle.ft_quick.proofs.marks.near_places.Goals as goal

pub returns-clause-marks : goal.returns-clause-marks
returns-clause-marks c = (near_marked c.args.bytes c.args.byte c.fits-bytes.0).0

pub returns-clause-few : goal.returns-clause-few
returns-clause-few c = (near_marked c.args.bytes c.args.byte c.fits-bytes.0).1
