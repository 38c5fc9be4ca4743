use Rattle.std.proofs.Common.{rules}
use Rattle.ft_hist.proofs.modifier.Mode.matches.Goals as goal

pub returns-in-Buckets-Buckets : goal.returns-in-Buckets-Buckets
returns-in-Buckets-Buckets c = search rules
