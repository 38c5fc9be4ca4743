use Rattle.std.specs.Ordering.{nat_cmp}
use Rattle.ft_maps.specs.Seen.{seen}
use Rattle.ft_lanes.proofs.Copies.{Copying}
use Rattle.ft_lanes.proofs.lanes.Lanes.rebuilt.Given as goal

abbrev pub invariant-loop-cpu : goal.invariant-loop-cpu
invariant-loop-cpu l = Copying l.self l.store (seen nat_cmp l.slots) l.cpu-iterator
