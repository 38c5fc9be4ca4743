use Rattle.std.proofs.Common.{◌≡◌, ◌++◌}
use Rattle.std.specs.List.{flat_map}
use Rattle.ft_losses.specs.Holes.{any_earlier, cpus_below, late_hole}
use Rattle.ft_losses.specs.inner.Lanes.{lane_in}
use Rattle.ft_losses.proofs.late.add_all_late.Given as goal

abbrev pub invariant-loop-cpu : goal.invariant-loop-cpu
invariant-loop-cpu l = l.holes.items ≡ l.fn.holes.items ++ flat_map (λ cpu. late_hole (any_earlier (λ c. (lane_in l.fn.lanes c).first)) l.fn.line cpu (lane_in l.fn.lanes cpu).first) (cpus_below l.cpu)
