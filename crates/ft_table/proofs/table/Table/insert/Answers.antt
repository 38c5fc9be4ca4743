use Rattle.std.proofs.Common.{rules}
use Rattle.ft_table.proofs.table.Table.insert.Goals as goal

pub returns-clause-puts : goal.returns-clause-puts
returns-clause-puts c = search rules
