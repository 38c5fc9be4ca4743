use Rattle.std.proofs.Common.{◌≡◌, ◌++◌, take}
use Rattle.std.specs.List.{flat_map}
use Rattle.std.specs.Option.{option_and_then}
use Rattle.ft_losses.specs.Holes.{counted_by}
use Rattle.ft_losses.specs.inner.Lanes.{lane_in}
use Rattle.ft_losses.proofs.ending.add_all_counted.Given as goal

abbrev pub invariant-loop-hole : goal.invariant-loop-hole
invariant-loop-hole l = l.counted.items ≡ l.fn.counted.items ++ flat_map (λ hole. counted_by (option_and_then (λ cpu. (lane_in l.fn.lanes cpu).overwritten) hole.cpu) hole) (take l.hole-index l.holes)
