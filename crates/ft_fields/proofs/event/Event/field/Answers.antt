use Rattle.std.proofs.Common.{rules}
use Rattle.ft_fields.proofs.event.Event.field.Goals as goal

pub returns : goal.returns
returns c = search rules
