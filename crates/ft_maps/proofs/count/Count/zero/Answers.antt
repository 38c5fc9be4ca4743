use Rattle.std.proofs.Common.{rules}
use Rattle.ft_maps.proofs.count.Count.zero.Goals as goal

pub returns : goal.returns
returns c = search rules
