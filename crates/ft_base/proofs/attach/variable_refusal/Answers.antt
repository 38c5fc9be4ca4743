use Rattle.std.proofs.Common.{rules}
use Rattle.ft_base.proofs.attach.variable_refusal.Goals as goal

pub returns-in-Some-Saves : goal.returns-in-Some-Saves
returns-in-Some-Saves c = search rules
