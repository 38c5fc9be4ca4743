use Rattle.std.proofs.Common.{◌≡◌, ◌++◌}
use Rattle.std.specs.List.{flat_map}
use Rattle.ft_losses.specs.Holes.{cpus_below}
use Rattle.ft_windows.specs.Telling.{lane_in, named_in, ends_after, is_from}
use Rattle.ft_windows.specs.Windows.{early_window}
use Rattle.ft_windows.proofs.windows.Windows.add_all_early.Given as goal

abbrev pub invariant-loop-cpu : goal.invariant-loop-cpu
invariant-loop-cpu l = l.holes.items ≡ l.fn.holes.items ++ flat_map (λ cpu. early_window (λ pid stamp. ends_after (named_in l.fn.self.tasks pid) stamp) (is_from l.fn.self.greatest_from) cpu (lane_in l.fn.self.lanes.items cpu).last) (cpus_below l.cpu)
