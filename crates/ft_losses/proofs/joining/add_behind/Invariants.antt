use Rattle.std.proofs.Common.{◌≡◌, ◌++◌, take, map as list_map}
use Rattle.ft_losses.specs.Joining.{hole_behind}
use Rattle.ft_losses.specs.inner.Lanes.{lane_in}
use Rattle.ft_losses.proofs.joining.add_behind.Given as goal

abbrev pub invariant-loop-hole : goal.invariant-loop-hole
invariant-loop-hole l = l.ended.items ≡ l.fn.ended.items ++ list_map (hole_behind l.fn.lines (λ cpu. (lane_in l.fn.lanes cpu).last)) (take l.hole-index l.fn.part)
