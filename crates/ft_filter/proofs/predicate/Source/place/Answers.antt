use Rattle.std.proofs.Common.{rules}
use Rattle.ft_filter.proofs.predicate.Source.place.Goals as goal

pub returns : goal.returns
returns c = search rules
