use Rattle.std.proofs.Common.{rules}
use Rattle.ft_layout.proofs.rows.PartLayout.of.Goals as goal

pub returns-in-Log2 : goal.returns-in-Log2
returns-in-Log2 c = search rules
