use Rattle.std.proofs.Common.{◌≡◌, sym, subst, arith, length}
use Rattle.ft_blocks.specs.Sorted.{AllBelow, Ascend, IsCut}
use Rattle.ft_blocks.specs.Blocks.{joined}
use Rattle.ft_blocks.proofs.Appends.{ascend_first, ascend_second, below_both}
use Rattle.ft_blocks.proofs.Joined.{ascend_at}
use Rattle.ft_blocks.proofs.Order.{below_blocks}
use Rattle.ft_blocks.proofs.Taken.{take_some}
use Rattle.ft_blocks.proofs.Shifts.{stands_block, stands_last, before_block, before_last, but_block, but_rest, ties_in_block, ties_in_last, tied_inside}
use Rattle.ft_blocks.proofs.moves.place_of.Goals as goal

pub block_of-at-requires-clause-ascend : goal.block_of-at-requires-clause-ascend
block_of-at-requires-clause-ascend g c = ascend_first g.K.Ord.cmp (joined c.args.blocks.now) c.args.last.now c.requires.ascend

pub cut_of-requires : goal.cut_of-requires
cut_of-requires g c =
    let R = g.K.Ord.cmp in
    let bs = c.args.blocks.now in
    rw c.deref.ensures.value (ascend_at R bs c.block_of-at.result c.index-blocks-at.result (ascend_first R (joined bs) c.args.last.now c.requires.ascend) c.if-at-blocks.true (sym c.index-blocks-at.is))

pub returns-then-at-blocks-clause-stands : goal.returns-then-at-blocks-clause-stands
returns-then-at-blocks-clause-stands g c =
    let R = g.K.Ord.cmp in
    let bs = c.args.blocks.now in
    let last = c.args.last.now in
    let k = c.args.key.now in
    let at = c.block_of-at.result in
    let b = c.index-blocks-at.result in
    let n = c.cut_of.result in
    let cut : IsCut R b.items k n = subst (λ es. IsCut R es k n) c.deref.ensures.value c.cut_of.ensures in
    let ties = ties_in_block g.met.K.Ord.total bs last k at n b c.if-at-blocks.true (sym c.index-blocks-at.is) c.block_of-at.ensures cut c.requires.ascend c.requires.there in
    stands_block bs last at n b c.if-at-blocks.true (sym c.index-blocks-at.is) (tied_inside g.met.K.Ord.total k b.items n ties)

pub returns-then-at-blocks-clause-others : goal.returns-then-at-blocks-clause-others
returns-then-at-blocks-clause-others g c =
    let R = g.K.Ord.cmp in
    let bs = c.args.blocks.now in
    let last = c.args.last.now in
    let k = c.args.key.now in
    let at = c.block_of-at.result in
    let b = c.index-blocks-at.result in
    let n = c.cut_of.result in
    let cut : IsCut R b.items k n = subst (λ es. IsCut R es k n) c.deref.ensures.value c.cut_of.ensures in
    let ties = ties_in_block g.met.K.Ord.total bs last k at n b c.if-at-blocks.true (sym c.index-blocks-at.is) c.block_of-at.ensures cut c.requires.ascend c.requires.there in
    let up : Ascend R b.items = ascend_at R bs at b (ascend_first R (joined bs) last c.requires.ascend) c.if-at-blocks.true (sym c.index-blocks-at.is) in
    but_block g.met.K.Ord.total bs last k at n b c.if-at-blocks.true (sym c.index-blocks-at.is) c.block_of-at.ensures.below c.block_of-at.ensures.reaches c.requires.ascend
    (take_some g.met.K.Ord.total b.items k n cut up ties)

pub returns-then-at-blocks-clause-before : goal.returns-then-at-blocks-clause-before
returns-then-at-blocks-clause-before g c =
    let R = g.K.Ord.cmp in
    let bs = c.args.blocks.now in
    let k = c.args.key.now in
    let b = c.index-blocks-at.result in
    let n = c.cut_of.result in
    let cut : IsCut R b.items k n = subst (λ es. IsCut R es k n) c.deref.ensures.value c.cut_of.ensures in
    before_block R bs c.args.last.now k c.block_of-at.result n b c.if-at-blocks.true (sym c.index-blocks-at.is) c.block_of-at.ensures.below cut.below

pub cut_of-requires-2 : goal.cut_of-requires-2
cut_of-requires-2 g c = ascend_second g.K.Ord.cmp (joined c.args.blocks.now) c.args.last.now c.requires.ascend

pub returns-clause-stands : goal.returns-clause-stands
returns-clause-stands g c =
    let R = g.K.Ord.cmp in
    let bs = c.args.blocks.now in
    let last = c.args.last.now in
    let k = c.args.key.now in
    let at = c.block_of-at.result in
    let n = c.cut_of-2.result in
    let end : at ≡ length bs = omega (arith, c.if-at-blocks.false, c.block_of-at.ensures.within) in
    let below : AllBelow R k (joined bs) = below_blocks R bs k at c.block_of-at.ensures c.if-at-blocks.false in
    let ties = ties_in_last g.met.K.Ord.total bs last k n below c.cut_of-2.ensures c.requires.ascend c.requires.there in
    stands_last bs last at n end (tied_inside g.met.K.Ord.total k last n ties)

pub returns-clause-others : goal.returns-clause-others
returns-clause-others g c =
    let R = g.K.Ord.cmp in
    let bs = c.args.blocks.now in
    let last = c.args.last.now in
    let k = c.args.key.now in
    let at = c.block_of-at.result in
    let n = c.cut_of-2.result in
    let end : at ≡ length bs = omega (arith, c.if-at-blocks.false, c.block_of-at.ensures.within) in
    let below : AllBelow R k (joined bs) = below_blocks R bs k at c.block_of-at.ensures c.if-at-blocks.false in
    let ties = ties_in_last g.met.K.Ord.total bs last k n below c.cut_of-2.ensures c.requires.ascend c.requires.there in
    but_rest g.met.K.Ord.total bs last k at n end below (take_some g.met.K.Ord.total last k n c.cut_of-2.ensures (ascend_second R (joined bs) last c.requires.ascend) ties)

pub returns-clause-before : goal.returns-clause-before
returns-clause-before g c =
    let R = g.K.Ord.cmp in
    let bs = c.args.blocks.now in
    let last = c.args.last.now in
    let k = c.args.key.now in
    let at = c.block_of-at.result in
    let n = c.cut_of-2.result in
    let end : at ≡ length bs = omega (arith, c.if-at-blocks.false, c.block_of-at.ensures.within) in
    let below : AllBelow R k (joined bs) = below_blocks R bs k at c.block_of-at.ensures c.if-at-blocks.false in
    subst (AllBelow R k) (sym (before_last bs last at n end)) (below_both R k (joined bs) _ below c.cut_of-2.ensures.below)
