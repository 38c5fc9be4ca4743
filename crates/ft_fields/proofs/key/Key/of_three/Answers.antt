use Rattle.std.proofs.Common.{rules}
use Rattle.ft_fields.proofs.key.Key.of_three.Goals as goal

pub returns : goal.returns
returns c = search rules
