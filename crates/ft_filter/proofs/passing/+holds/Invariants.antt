use Rattle.std.proofs.Common.{◌≡◌, drop}
use Rattle.std.specs.Prelude.{map}
use Rattle.ft_filter.specs.Holds.{some_holds, each_holds}
use Rattle.ft_filter.specs.Tree.{tree_of, trees, trees_in}
use Rattle.ft_filter.proofs.passing.+holds.Given as goal

abbrev pub invariant-some_holds-loop-operand : goal.invariant-some_holds-loop-operand
invariant-some_holds-loop-operand l = some_holds l.event (trees (map tree_of (drop l.operand-index l.operand-items))) ≡ some_holds l.event (trees (trees_in l.operands))

abbrev pub invariant-each_holds-loop-operand : goal.invariant-each_holds-loop-operand
invariant-each_holds-loop-operand l = each_holds l.event (trees (map tree_of (drop l.operand-index l.operand-items))) ≡ each_holds l.event (trees (trees_in l.operands))
