use Rattle.std.proofs.Common.{rules}
use Rattle.ft_hist.proofs.fault.TriggerFault.place.Goals as goal

pub returns-in-Syntax : goal.returns-in-Syntax
returns-in-Syntax c = search rules
