use Rattle.std.proofs.Common.{◌-◌, length}
use Rattle.std.specs.FinMap as map
use Rattle.ft_pairs.specs.inner.Met.{FindFirst}
use Rattle.ft_pairs.proofs.sequence.Sequence.sources.Given as goal

-- those found so far are found
abbrev pub invariant-loop-found : goal.invariant-loop-found
invariant-loop-found l = FindFirst (map.get l.self) l.reads l.found.items

abbrev pub decreases-loop-found : goal.decreases-loop-found
decreases-loop-found l = length l.reads - length l.found.items
