use Rattle.std.proofs.Common.{sym, subst, ◌++◌}
use Rattle.ft_blocks.specs.Sorted.{Ascend}
use Rattle.ft_blocks.specs.Blocks.{joined}
use Rattle.ft_blocks.proofs.Appends.{ascend_first}
use Rattle.ft_blocks.proofs.blocks.put_between.Goals as goal

pub block_of-at-requires-clause-ascend : goal.block_of-at-requires-clause-ascend
block_of-at-requires-clause-ascend g c = rw c.deref.ensures.value (ascend_first g.K.Ord.cmp (joined c.args.blocks.now.items) c.args.last.now.items c.requires.ascend)

pub block_of-at-requires-2-clause-ascend : goal.block_of-at-requires-2-clause-ascend
block_of-at-requires-2-clause-ascend g c =
    let R = g.K.Ord.cmp in
    let up : Ascend R (joined c.make_room.new.blocks.items ++ c.make_room.new.last.items) = subst (Ascend R) (sym c.in_ok-make_room.ensures.same) c.requires.ascend in
    rw c.deref-4.ensures.value (ascend_first R (joined c.make_room.new.blocks.items) c.make_room.new.last.items up)
