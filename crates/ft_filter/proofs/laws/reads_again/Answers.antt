use Rattle.ft_filter.proofs.Again.{given_again}
use Rattle.ft_filter.proofs.laws.reads_again.Goals as goal

pub returns : goal.returns
returns c = given_again
