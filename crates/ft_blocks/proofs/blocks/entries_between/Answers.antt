use Rattle.std.proofs.Common.{◌≡◌, ◌+◌, suc, sym, ap, subst, ◌∙◌, arith, ◌++◌, List, drop}
use Rattle.std.proofs.lemmas.List.{append-nil}
use Rattle.ft_blocks.specs.Sorted.{from_key}
use Rattle.ft_blocks.specs.Blocks.{joined, AreFilled}
use Rattle.ft_blocks.proofs.Appends.{ascend_first, ascend_second}
use Rattle.ft_blocks.proofs.Joined.{ascend_at}
use Rattle.ft_blocks.proofs.Order.{below_blocks}
use Rattle.ft_blocks.proofs.Froms.{filled_drop, from_block, from_rest}
use Rattle.ft_blocks.proofs.blocks.entries_between.Goals as goal

pub block_of-at-requires-clause-ascend : goal.block_of-at-requires-clause-ascend
block_of-at-requires-clause-ascend g c = ascend_first g.K.Ord.cmp (joined c.args.blocks.now) c.args.last.now c.requires.ascend

pub from_in-requires : goal.from_in-requires
from_in-requires g c =
    let R = g.K.Ord.cmp in
    let bs = c.args.blocks.now in
    let b = c.index-blocks-at.result in
    rw c.deref.ensures.value (ascend_at R bs c.block_of-at.result b (ascend_first R (joined bs) c.args.last.now c.requires.ascend) c.if-at-blocks.true (sym c.index-blocks-at.is))

pub from_in-requires-2 : goal.from_in-requires-2
from_in-requires-2 g c = ascend_second g.K.Ord.cmp (joined c.args.blocks.now) c.args.last.now c.requires.ascend

pub invariant_of-result : goal.invariant_of-result
invariant_of-result g c = subst (λ bs. AreFilled bs) (sym c.rest_of.ensures) (filled_drop c.args.blocks.now (c.block_of-at.result + 1) c.requires.filled)

pub returns-then-at-blocks : goal.returns-then-at-blocks
returns-then-at-blocks g c =
    let R = g.K.Ord.cmp in
    let bs = c.args.blocks.now in
    let b = c.index-blocks-at.result in
    let k = c.args.key.now in
    let n = c.block_of-at.result in
    let at = c.block_of-at.ensures in
    let next : n + 1 ≡ suc n = omega arith in
    (λ i. (c.from_in.ensures ∙ ap (from_key R k) c.deref.ensures.value) i ++ (joined ((c.rest_of.ensures ∙ ap (λ m. drop m bs) next) i) ++ c.args.last.now))
    ∙ from_block g.met.K.Ord.total bs k n b c.args.last.now c.if-at-blocks.true (sym c.index-blocks-at.is) at.below at.reaches c.requires.ascend

pub returns : goal.returns
returns g c =
    let R = g.K.Ord.cmp in
    let bs = c.args.blocks.now in
    let k = c.args.key.now in
    append-nil c.from_in-2.result.now ∙ c.from_in-2.ensures
    ∙ from_rest g.met.K.Ord.total bs k c.args.last.now (below_blocks R bs k c.block_of-at.result c.block_of-at.ensures c.if-at-blocks.false)
