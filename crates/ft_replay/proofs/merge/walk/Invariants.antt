use Rattle.std.specs.Prelude.{IsPermutation}
use Rattle.ft_replay.specs.inner.Rests.{entries_left, listed_and_left}
use Rattle.ft_replay.proofs.merge.walk.Given as goal

-- what is listed and what is left are all together
abbrev pub invariant-loop-place : goal.invariant-loop-place
invariant-loop-place l = IsPermutation (listed_and_left l.names l.fn.ordered.events.items (entries_left l.fn.rests.rests.items)) (listed_and_left l.names l.ordered.events.items (entries_left l.rests.rests.items))
