use Rattle.std.proofs.Common.{◌≡◌, ◌≤◌, ℕ}
use Rattle.std.specs.Prelude.{nat_lt, vec_len, if◌then◌else◌}
use Rattle.ft_fields.specs.Traced.{last_cpu}
use Rattle.ft_losses.specs.inner.Lanes.{lane_in}
use Rattle.ft_losses.specs.inner.Joined.{lane_behind}
use Rattle.ft_losses.proofs.joining.join_lanes.Given as goal

abbrev pub invariant-loop-cpu : goal.invariant-loop-cpu
invariant-loop-cpu l = (vec_len l.lanes ≡ 8192) × ((cpu : ℕ) → cpu ≤ last_cpu → lane_in l.lanes.items cpu
    ≡ if nat_lt cpu l.cpu then lane_behind l.fn.lines (lane_in l.fn.lanes.items cpu) (lane_in l.fn.part cpu) else lane_in l.fn.lanes.items cpu)
