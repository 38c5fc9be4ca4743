use Rattle.std.proofs.Common.{◌≡◌, drop, take, fold}
use Rattle.std.specs.Ordering.{nat_cmp}
use Rattle.std.specs.FinMap as map
use Rattle.ft_maps.specs.Seen.{seen}
use Rattle.ft_lanes.proofs.load.remove_all.Given as goal

abbrev pub invariant-loop-i : goal.invariant-loop-i
invariant-loop-i l = seen nat_cmp l.lanes ≡ fold (λ m e. map.remove m e.cpu) (seen nat_cmp l.initial.lanes) (take l.i (drop l.first l.store))
