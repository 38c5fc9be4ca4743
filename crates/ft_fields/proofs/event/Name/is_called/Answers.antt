use Rattle.std.proofs.Common.{rules}
use Rattle.ft_fields.proofs.event.Name.is_called.Goals as goal

pub returns-in-Some : goal.returns-in-Some
returns-in-Some c = search rules
