use Rattle.std.proofs.Common.{rules}
use Rattle.ft_fields.proofs.comm.Comm.bytes.Goals as goal

pub returns-clause-value : goal.returns-clause-value
returns-clause-value c = search rules
