use Rattle.std.proofs.Common.{sym, ap, ◌∙◌}
use Rattle.ft_blocks.specs.Blocks.{joined}
use Rattle.std.specs.FinMap.{find}
use Rattle.ft_blocks.proofs.Appends.{ascend_first, ascend_second}
use Rattle.ft_blocks.proofs.Joined.{ascend_at}
use Rattle.ft_blocks.proofs.Taken.{find_behind, find_block}
use Rattle.ft_blocks.proofs.Order.{below_blocks}
use Rattle.ft_blocks.proofs.blocks.get_between.Goals as goal

pub block_of-at-requires-clause-ascend : goal.block_of-at-requires-clause-ascend
block_of-at-requires-clause-ascend g c = ascend_first g.K.Ord.cmp (joined c.args.blocks.now) c.args.last.now c.requires.ascend

pub get_in-requires : goal.get_in-requires
get_in-requires g c =
    let R = g.K.Ord.cmp in
    let bs = c.args.blocks.now in
    let b = c.index-blocks-at.result in
    rw c.deref.ensures.value (ascend_at R bs c.block_of-at.result b (ascend_first R (joined bs) c.args.last.now c.requires.ascend) c.if-at-blocks.true (sym c.index-blocks-at.is))

pub returns-then-at-blocks : goal.returns-then-at-blocks
returns-then-at-blocks g c =
    let R = g.K.Ord.cmp in
    let bs = c.args.blocks.now in
    let b = c.index-blocks-at.result in
    let k = c.args.key.now in
    c.get_in.ensures ∙ ap (find R k) c.deref.ensures.value
    ∙ find_block g.met.K.Ord.total bs k c.block_of-at.result b c.args.last.now c.if-at-blocks.true (sym c.index-blocks-at.is) c.block_of-at.ensures.below c.block_of-at.ensures.reaches c.requires.ascend

pub get_in-requires-2 : goal.get_in-requires-2
get_in-requires-2 g c = ascend_second g.K.Ord.cmp (joined c.args.blocks.now) c.args.last.now c.requires.ascend

pub returns : goal.returns
returns g c =
    let R = g.K.Ord.cmp in
    let bs = c.args.blocks.now in
    let k = c.args.key.now in
    c.get_in-2.ensures ∙ sym (find_behind g.met.K.Ord.total k (joined bs) c.args.last.now (below_blocks R bs k c.block_of-at.result c.block_of-at.ensures c.if-at-blocks.false))
