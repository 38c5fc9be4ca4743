use Rattle.std.proofs.Common.{◌≡◌, ◌++◌}
use Rattle.std.specs.List.{flat_map}
use Rattle.ft_losses.specs.Holes.{cpus_below}
use Rattle.ft_losses.specs.Telling.{told_in}
use Rattle.ft_windows.specs.Telling.{lane_in, named_in, begins_before, is_before}
use Rattle.ft_windows.specs.Windows.{late_window}
use Rattle.ft_windows.proofs.windows.Windows.add_all_late.Given as goal

abbrev pub invariant-loop-cpu : goal.invariant-loop-cpu
invariant-loop-cpu l = l.holes.items ≡ l.fn.holes.items ++ flat_map (λ cpu. late_window (told_in l.fn.told) (λ pid stamp. begins_before (named_in l.fn.self.tasks pid) stamp) (is_before l.fn.self.least_at) cpu (lane_in l.fn.self.lanes.items cpu).first) (cpus_below l.cpu)
