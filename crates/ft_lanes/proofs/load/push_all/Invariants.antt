use Rattle.std.proofs.Common.{◌+◌, drop}
use Rattle.std.specs.Ordering.{nat_cmp}
use Rattle.ft_maps.specs.Seen.{seen}
use Rattle.ft_lanes.proofs.Merges.{Filled}
use Rattle.ft_lanes.proofs.load.push_all.Given as goal

abbrev pub invariant-loop-i : goal.invariant-loop-i
invariant-loop-i l = Filled (seen nat_cmp l.lanes) l.first (drop l.first l.store) l.by_cpu.items (l.first + l.i) l.i
