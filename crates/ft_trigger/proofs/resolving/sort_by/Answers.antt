use Rattle.std.proofs.Common.{rules}
use Rattle.ft_trigger.specs.TriggerIs.{sort_by}
use Rattle.ft_trigger.proofs.resolving.sort_by.Goals as goal

pub returns-in-None-value_named : goal.returns-in-None-value_named
unfolding sort_by
returns-in-None-value_named c = search rules
