use Rattle.std.proofs.Common.{◌≡◌, ◌++◌}
use Rattle.std.specs.Prelude.{None}
use Rattle.std.specs.List.{flat_map}
use Rattle.ft_losses.specs.Holes.{cpus_below, hole_of}
use Rattle.ft_losses.specs.inner.Lanes.{lane_in}
use Rattle.ft_losses.proofs.ending.add_open.Given as goal

abbrev pub invariant-loop-cpu : goal.invariant-loop-cpu
invariant-loop-cpu l = l.holes.items ≡ l.fn.holes.items ++ flat_map (λ cpu. hole_of cpu (lane_in l.fn.lanes cpu).last None (lane_in l.fn.lanes cpu).lost) (cpus_below l.cpu)
