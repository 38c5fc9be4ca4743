-- A tree in order has as many entries as the finite map that it is seen as.
use Rattle.std.proofs.Common.{arith}
use Rattle.ft_maps.specs.Seen.{len-seen}
use Rattle.ft_maps.proofs.len.Goals as goal

pub returns : goal.returns
returns g c = omega (arith, c.len.ensures.len, len-seen g.met.K.Ord.total c.args.map.now c.len.ensures.ordered)
