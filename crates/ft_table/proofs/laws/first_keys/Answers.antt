use Rattle.ft_table.proofs.Ranks.{firsts_are_first, in_by_rank}
use Rattle.ft_table.proofs.laws.first_keys.Goals as goal

pub returns-clause-firsts : goal.returns-clause-firsts
returns-clause-firsts c = firsts_are_first

pub returns-clause-rank : goal.returns-clause-rank
returns-clause-rank c = in_by_rank
