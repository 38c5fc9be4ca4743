use Rattle.std.proofs.Common.{◌≡◌, ◌+◌, suc, sym, ap, ◌∙◌, arith, ◌++◌, drop, Some, None}
use Rattle.ft_blocks.specs.Sorted.{first_above, first_entry, later_of}
use Rattle.ft_blocks.specs.Blocks.{joined}
use Rattle.ft_blocks.proofs.Appends.{ascend_first, ascend_second}
use Rattle.ft_blocks.proofs.Joined.{ascend_at}
use Rattle.ft_blocks.proofs.Order.{below_blocks}
use Rattle.ft_blocks.proofs.Nexts.{after_block, after_rest}
use Rattle.ft_blocks.proofs.blocks.after_between.Goals as goal

pub block_of-at-requires-clause-ascend : goal.block_of-at-requires-clause-ascend
block_of-at-requires-clause-ascend g c = ascend_first g.K.Ord.cmp (joined c.args.blocks.now) c.args.last.now c.requires.ascend

pub after_in-requires : goal.after_in-requires
after_in-requires g c = ascend_second g.K.Ord.cmp (joined c.args.blocks.now) c.args.last.now c.requires.ascend

pub returns-then-at-blocks : goal.returns-then-at-blocks
returns-then-at-blocks g c =
    let R = g.K.Ord.cmp in
    let bs = c.args.blocks.now in
    let k = c.args.key.now in
    c.after_in.ensures ∙ after_rest g.met.K.Ord.total bs k c.args.last.now (below_blocks R bs k c.block_of-at.result c.block_of-at.ensures c.if-at-blocks.true)

pub after_in-requires-2 : goal.after_in-requires-2
after_in-requires-2 g c =
    let R = g.K.Ord.cmp in
    let bs = c.args.blocks.now in
    let b = c.index-blocks-at.result in
    rw c.deref.ensures.value (ascend_at R bs c.block_of-at.result b (ascend_first R (joined bs) c.args.last.now c.requires.ascend) c.if-at-blocks.false (sym c.index-blocks-at.is))

pub returns-in-Some : goal.returns-in-Some
returns-in-Some g c =
    let R = g.K.Ord.cmp in
    let bs = c.args.blocks.now in
    let b = c.index-blocks-at.result in
    let k = c.args.key.now in
    let n = c.block_of-at.result in
    let at = c.block_of-at.ensures in
    let here : first_above R k b.items ≡ Some c.in-Some.entry = ap (first_above R k) (sym c.deref.ensures.value) ∙ sym c.after_in-2.ensures ∙ c.in-Some.is in
    ap (λ o. later_of o (first_entry (joined (drop (suc n) bs) ++ c.args.last.now))) (sym here)
    ∙ after_block g.met.K.Ord.total bs k n b c.args.last.now c.if-at-blocks.false (sym c.index-blocks-at.is) at.below at.reaches c.requires.ascend

pub returns-in-None : goal.returns-in-None
returns-in-None g c =
    let R = g.K.Ord.cmp in
    let bs = c.args.blocks.now in
    let b = c.index-blocks-at.result in
    let k = c.args.key.now in
    let n = c.block_of-at.result in
    let at = c.block_of-at.ensures in
    let next : n + 1 ≡ suc n = omega arith in
    let here : first_above R k b.items ≡ None = ap (first_above R k) (sym c.deref.ensures.value) ∙ sym c.after_in-2.ensures ∙ c.in-None.is in
    c.first_from.ensures ∙ ap (λ m. first_entry (joined (drop m bs) ++ c.args.last.now)) next
    ∙ ap (λ o. later_of o (first_entry (joined (drop (suc n) bs) ++ c.args.last.now))) (sym here)
    ∙ after_block g.met.K.Ord.total bs k n b c.args.last.now c.if-at-blocks.false (sym c.index-blocks-at.is) at.below at.reaches c.requires.ascend
