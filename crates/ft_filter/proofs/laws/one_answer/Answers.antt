use Rattle.ft_filter.proofs.Existence.{filter_found}
use Rattle.ft_filter.proofs.Unique.{filter_is}
use Rattle.ft_filter.proofs.laws.one_answer.Goals as goal

pub returns-clause-some : goal.returns-clause-some
returns-clause-some c = filter_found

pub returns-clause-one : goal.returns-clause-one
returns-clause-one c = filter_is
