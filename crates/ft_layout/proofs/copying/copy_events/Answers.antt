use Rattle.std.proofs.Common.{rules}
use Rattle.ft_layout.proofs.copying.copy_events.Goals as goal

pub returns-clause-count : goal.returns-clause-count
returns-clause-count c = search rules
