use Rattle.std.proofs.Common.{◌≡◌, length}
use Rattle.ft_lanes.specs.inner.Rows.{held_rows}
use Rattle.ft_lanes.proofs.rows.next_held.Given as goal

-- what was passed is struck
abbrev pub invariant-loop-row : goal.invariant-loop-row
invariant-loop-row l = held_rows l.rows.now ≡ held_rows l.initial.rows.now

abbrev pub decreases-loop-row : goal.decreases-loop-row
decreases-loop-row l = length l.rows.now
