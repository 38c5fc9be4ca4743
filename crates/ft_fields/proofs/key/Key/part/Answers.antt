use Rattle.std.proofs.Common.{rules}
use Rattle.ft_fields.proofs.key.Key.part.Goals as goal

pub returns-in-1-More-clause-value : goal.returns-in-1-More-clause-value
returns-in-1-More-clause-value c = search rules
