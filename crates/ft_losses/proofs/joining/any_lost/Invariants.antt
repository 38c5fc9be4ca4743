use Rattle.std.proofs.Common.{◌≡◌}
use Rattle.std.specs.List.{list_any}
use Rattle.std.specs.Option.{is_some}
use Rattle.ft_losses.specs.Holes.{cpus_below}
use Rattle.ft_losses.specs.inner.Lanes.{lane_in}
use Rattle.ft_losses.proofs.joining.any_lost.Given as goal

abbrev pub invariant-loop-cpu : goal.invariant-loop-cpu
invariant-loop-cpu l = l.any ≡ list_any (λ cpu. is_some (lane_in l.fn.lanes cpu).lost) (cpus_below l.cpu)
