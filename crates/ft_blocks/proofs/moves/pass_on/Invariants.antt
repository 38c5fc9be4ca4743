use Rattle.std.proofs.Common.{◌≡◌, ◌-◌, length}
use Rattle.ft_blocks.specs.Sorted.{AllBelow}
use Rattle.ft_blocks.specs.Blocks.{AreFilled}
use Rattle.ft_blocks.specs.inner.Moves.{StandsAt, all_but, all_before}
use Rattle.ft_blocks.proofs.moves.pass_on.Given as goal

abbrev pub invariant-loop-next : goal.invariant-loop-next
invariant-loop-next g l = record {
  filled : AreFilled l.blocks.items;
  stands : StandsAt l.blocks.items l.last l.at l.from;
  others : all_but l.blocks.items l.last l.at l.from ≡ all_but l.fn.blocks.items l.fn.last l.fn.place.0 l.fn.place.1;
  before : AllBelow g.K.Ord.cmp l.key (all_before l.blocks.items l.last l.at l.from);
}

abbrev pub decreases-loop-next : goal.decreases-loop-next
decreases-loop-next g l = length l.blocks.items - l.at
