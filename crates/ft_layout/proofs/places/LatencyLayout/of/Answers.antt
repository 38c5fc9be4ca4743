use Rattle.std.proofs.Common.{rules}
use Rattle.ft_layout.proofs.places.LatencyLayout.of.Goals as goal

pub returns : goal.returns
returns c = search rules
