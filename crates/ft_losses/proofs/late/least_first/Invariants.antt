use Rattle.std.proofs.Common.{◌≡◌, ℕ}
use Rattle.std.specs.List.{list_any}
use Rattle.ft_losses.specs.Holes.{is_earlier, cpus_below}
use Rattle.ft_losses.specs.inner.Lanes.{lane_in}
use Rattle.ft_losses.proofs.late.least_first.Given as goal

abbrev pub invariant-loop-cpu : goal.invariant-loop-cpu
invariant-loop-cpu l = (stamp : ℕ) → is_earlier l.least stamp ≡ list_any (λ cpu. is_earlier (lane_in l.fn.lanes cpu).first stamp) (cpus_below l.cpu)
