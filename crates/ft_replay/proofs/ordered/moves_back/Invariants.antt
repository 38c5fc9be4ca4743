use Rattle.std.proofs.Common.{length, ◌-◌, ◌≤◌}
use Rattle.ft_replay.proofs.ordered.moves_back.Given as goal

abbrev pub invariant-loop-moves : goal.invariant-loop-moves
invariant-loop-moves l = record { within : l.moves ≤ length l.events; few : l.moves ≤ l.most }

abbrev pub decreases-loop-moves : goal.decreases-loop-moves
decreases-loop-moves l = length l.events - l.moves
