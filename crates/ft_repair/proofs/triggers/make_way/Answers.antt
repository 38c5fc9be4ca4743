use Rattle.ft_repair.proofs.Outside.{can_wait}
use Rattle.ft_repair.proofs.triggers.make_way.Goals as goal

pub returns-in-Ok-clause-waits : goal.returns-in-Ok-clause-waits
returns-in-Ok-clause-waits c = can_wait c.args.id c.args.content.now c.take_reads.new.tables c.in-Ok.ensures.leaves
