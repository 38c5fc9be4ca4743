use Rattle.std.proofs.Common.{◌≡◌, ◌++◌, drop, map}
use Rattle.ft_filter.specs.Canonical.{joined_text, more_text}
use Rattle.ft_text.specs.Fronts.{IsFront}
use Rattle.ft_filter.specs.Tree.{tree_of, trees}
use Rattle.ft_filter.proofs.writing.+write.Given as goal

abbrev pub invariant-write_joined-loop-at : goal.invariant-write_joined-loop-at
invariant-write_joined-loop-at l = record {
  added : l.text.items ++ more_text l.joint (trees (map tree_of (drop l.at l.operands))) ≡ l.fn.text.items ++ joined_text l.joint (trees (map tree_of l.operands));
  front : IsFront l.fn.text.items l.text.items;
}
