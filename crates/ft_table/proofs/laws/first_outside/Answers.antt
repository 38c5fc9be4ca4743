use Rattle.ft_table.proofs.Outside.{first_is_out}
use Rattle.ft_table.proofs.laws.first_outside.Goals as goal

pub returns : goal.returns
returns c = first_is_out
