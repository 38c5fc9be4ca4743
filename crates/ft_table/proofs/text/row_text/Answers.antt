use Rattle.std.proofs.Common.{rules}
use Rattle.ft_table.proofs.text.row_text.Goals as goal

pub returns : goal.returns
returns c = search rules
