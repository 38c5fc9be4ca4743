use Rattle.std.proofs.Common.{rules}
use Rattle.ft_desk_core.proofs.desk.read_trigger.Goals as goal

pub returns-in-Other-clause-reads : goal.returns-in-Other-clause-reads
returns-in-Other-clause-reads c = search rules

pub returns-in-Other-clause-event : goal.returns-in-Other-clause-event
returns-in-Other-clause-event c = search rules
