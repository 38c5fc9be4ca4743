use Rattle.std.proofs.Common.{sym, ap, ◌∙◌, take}
use Rattle.ft_blocks.specs.Sorted.{last_below, last_entry, later_of}
use Rattle.ft_blocks.specs.Blocks.{joined}
use Rattle.ft_blocks.proofs.Appends.{ascend_first, ascend_second}
use Rattle.ft_blocks.proofs.Joined.{ascend_at}
use Rattle.ft_blocks.proofs.Lasts.{before_block, before_rest}
use Rattle.ft_blocks.proofs.blocks.before_between.Goals as goal

pub block_of-at-requires-clause-ascend : goal.block_of-at-requires-clause-ascend
block_of-at-requires-clause-ascend g c = ascend_first g.K.Ord.cmp (joined c.args.blocks.now) c.args.last.now c.requires.ascend

pub before_in-here-requires : goal.before_in-here-requires
before_in-here-requires g c =
    let R = g.K.Ord.cmp in
    let bs = c.args.blocks.now in
    let b = c.index-blocks-at.result in
    rw c.deref.ensures.value (ascend_at R bs c.block_of-at.result b (ascend_first R (joined bs) c.args.last.now c.requires.ascend) c.if-at-blocks.true (sym c.index-blocks-at.is))

pub returns-then-at-blocks : goal.returns-then-at-blocks
returns-then-at-blocks g c =
    let R = g.K.Ord.cmp in
    let bs = c.args.blocks.now in
    let b = c.index-blocks-at.result in
    let k = c.args.key.now in
    let at = c.block_of-at.ensures in
    c.or_last.ensures
    ∙ ap (λ o. later_of o (last_entry (joined (take c.block_of-at.result bs)))) (c.before_in-here.ensures ∙ ap (last_below R k) c.deref.ensures.value)
    ∙ sym (before_block g.met.K.Ord.total bs k c.block_of-at.result b c.args.last.now c.if-at-blocks.true (sym c.index-blocks-at.is) at.below at.reaches c.requires.ascend)

pub before_in-requires : goal.before_in-requires
before_in-requires g c = ascend_second g.K.Ord.cmp (joined c.args.blocks.now) c.args.last.now c.requires.ascend

pub returns : goal.returns
returns g c =
    let R = g.K.Ord.cmp in
    let bs = c.args.blocks.now in
    let k = c.args.key.now in
    let at = c.block_of-at.ensures in
    c.or_last-2.ensures
    ∙ ap (λ o. later_of o (last_entry (joined (take c.block_of-at.result bs)))) c.before_in.ensures
    ∙ sym (before_rest g.met.K.Ord.total bs k c.block_of-at.result c.args.last.now c.if-at-blocks.false at.below)
