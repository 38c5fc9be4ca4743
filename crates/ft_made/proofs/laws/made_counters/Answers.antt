use Rattle.ft_made.proofs.Counters.{first-is, made_count, made_none, making-named, none-made}
use Rattle.ft_made.proofs.laws.made_counters.Goals as goal

pub returns : goal.returns
returns c = record { first = first-is; second = made_count; none = made_none; named = making-named; idle = none-made }
