use Rattle.std.proofs.Common.{arith}
use Rattle.ft_quick.proofs.Marked.{digits_marked}
use Rattle.ft_quick.proofs.marks.near_digits.Goals as goal

pub returns : goal.returns
returns c = λ k within. digits_marked c.args.bytes 8 k c.fits-bytes.0 (omega arith) c.fits-bytes.1 within
