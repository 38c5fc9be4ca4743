use Rattle.std.proofs.Common.{rules}
use Rattle.ft_fields.proofs.comm.Comm.of.Goals as goal

pub returns : goal.returns
returns c = search rules
