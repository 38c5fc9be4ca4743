use Rattle.std.proofs.Common.{length}
use Rattle.ft_watch.proofs.Shown.{Popped}
use Rattle.ft_watch.proofs.known_rows.KnownRows.of_rows.Given as goal

abbrev pub invariant-loop-row : goal.invariant-loop-row
invariant-loop-row l = Popped l.fn.rows.items l.left.items l.table

abbrev pub decreases-loop-row : goal.decreases-loop-row
decreases-loop-row l = length l.left.items
