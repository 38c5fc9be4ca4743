use Rattle.std.proofs.Common.{◌≡◌, ◌≤◌, length, drop}
use Rattle.std.specs.FinMap as map
use Rattle.ft_pairs.proofs.sequence.one_by_one.Given as goal

-- those at the end stand, of two at one place the first
abbrev pub invariant-loop-left : goal.invariant-loop-left
invariant-loop-left l = (l.sequence ≡ map.from_entries (drop l.left l.run)) × (l.left ≤ length l.run)

abbrev pub decreases-loop-left : goal.decreases-loop-left
decreases-loop-left l = l.left
