use Rattle.std.proofs.Common.{◌≡◌, ◌<◌, ℕ, ◌+◌, ◌*◌, List, ◌∷◌, length, Some}
use Rattle.ft_filter.specs.declared.tree.Joint.{Joint}
use Rattle.ft_filter.specs.declared.tree.Joint.TheVariants as joints
use Rattle.ft_filter.specs.Predicate.{Read}
use Rattle.ft_filter.specs.FilterIs.{Goes, behind_joint, made}
use Rattle.ft_filter.specs.Tree.{Tree, Trees, tree_of, trees_in}
use Rattle.ft_filter.proofs.Operands.{before}
use Rattle.ft_filter.proofs.reading.+read.Given as goal

-- `||` stands above `&&`
abbrev rank : Joint → ℕ
rank joints.Or = 2
rank joints.And = 0

abbrev pub decreases-read_operand : goal.decreases-read_operand
decreases-read_operand l = 6 * length l.text.now + 1

abbrev pub decreases-read_below : goal.decreases-read_below
decreases-read_below l = 6 * length l.text.now + 2 + rank l.joint

abbrev pub decreases-read_joined : goal.decreases-read_joined
decreases-read_joined l = 6 * length l.text.now + 3 + rank l.joint

abbrev pub decreases-read_more : goal.decreases-read_more
decreases-read_more l = 6 * length l.behind.now + 6

abbrev pub decreases-read_not : goal.decreases-read_not
decreases-read_not l = 6 * length l.behind.now + 6

abbrev pub decreases-read_enclosed : goal.decreases-read_enclosed
decreases-read_enclosed l = 6 * length l.behind.now + 6

abbrev pub invariant-read_more-loop-behind : goal.invariant-read_more-loop-behind
invariant-read_more-loop-behind l =
    (others : List Tree) × (trees_in l.operands ≡ tree_of l.fn.first ∷ others) × (0 < length others)
    × ((start : List ℕ) → behind_joint l.joint start ≡ Some l.fn.behind → (read : Read Trees) → Goes l.source.event l.source.len l.joint l.room l.rest read
    → Goes l.source.event l.source.len l.joint l.room start (made (before others) read))
    × (length l.rest < length l.fn.behind)

abbrev pub decreases-read_more-loop-behind : goal.decreases-read_more-loop-behind
decreases-read_more-loop-behind l = length l.rest
