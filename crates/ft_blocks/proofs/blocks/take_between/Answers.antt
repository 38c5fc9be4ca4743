use Rattle.std.proofs.Common.{rules, sym, subst, ap, ◌∙◌, arith, ◌++◌, length, ◌≤◌, List}
use Rattle.std.specs.Prelude.{not}
use Rattle.std.specs.Ordering.{eq_by_cmp}
use Rattle.std.proofs.lemmas.List.Elements.{filter-append}
use Rattle.ft_blocks.specs.Sorted.{Ascend, without}
use Rattle.ft_blocks.specs.Blocks.{joined, IsBlockOf}
use Rattle.ft_blocks.proofs.Appends.{ascend_first, ascend_second}
use Rattle.ft_blocks.proofs.Taken.{find_behind, without_below}
use Rattle.ft_blocks.proofs.Order.{ascend_without, below_blocks}
use Rattle.ft_blocks.proofs.blocks.take_between.Goals as goal

pub block_of-at-requires-clause-ascend : goal.block_of-at-requires-clause-ascend
block_of-at-requires-clause-ascend g c = rw c.deref.ensures.value (ascend_first g.K.Ord.cmp (joined c.args.blocks.now.items) c.args.last.now.items c.requires.ascend)

pub take_at-requires-clause-ascend : goal.take_at-requires-clause-ascend
take_at-requires-clause-ascend g c = ascend_first g.K.Ord.cmp (joined c.args.blocks.now.items) c.args.last.now.items c.requires.ascend

pub take_in-requires : goal.take_in-requires
take_in-requires g c = ascend_second g.K.Ord.cmp (joined c.args.blocks.now.items) c.args.last.now.items c.requires.ascend

pub returns-clause-left : goal.returns-clause-left
returns-clause-left g c =
    let R = g.K.Ord.cmp in
    let bs = c.args.blocks.now in
    let k = c.args.key.now in
    let at : IsBlockOf R bs.items k c.block_of-at.result = search rules in
    let le : length bs.items ≤ c.block_of-at.result = omega (arith, c.if-at-len.false, bs.ok.0) in
    ap (λ (l : List _). joined bs.items ++ l) c.take_in.ensures.left
    ∙ ap (λ (l : List _). l ++ without R k c.args.last.now.items) (sym (without_below g.met.K.Ord.total k (joined bs.items) (below_blocks R bs.items k c.block_of-at.result at le)))
    ∙ sym (filter-append (λ e. not (eq_by_cmp R k e.0)) (joined bs.items) c.args.last.now.items)

pub returns-clause-value : goal.returns-clause-value
returns-clause-value g c =
    let R = g.K.Ord.cmp in
    let bs = c.args.blocks.now in
    let k = c.args.key.now in
    let at : IsBlockOf R bs.items k c.block_of-at.result = search rules in
    let le : length bs.items ≤ c.block_of-at.result = omega (arith, c.if-at-len.false, bs.ok.0) in
    c.take_in.ensures.value ∙ sym (find_behind g.met.K.Ord.total k (joined bs.items) c.args.last.now.items (below_blocks R bs.items k c.block_of-at.result at le))

pub returns-then-at-len-clause-ascend : goal.returns-then-at-len-clause-ascend
returns-then-at-len-clause-ascend g c =
    let R = g.K.Ord.cmp in
    subst (Ascend R) (sym (c.take_at.ensures.left c.args.last.now.items c.requires.ascend))
    (ascend_without R c.args.key.now (joined c.args.blocks.now.items ++ c.args.last.now.items) c.requires.ascend)

pub returns-clause-ascend : goal.returns-clause-ascend
returns-clause-ascend g c =
    let R = g.K.Ord.cmp in
    subst (Ascend R) (sym (returns-clause-left g c))
    (ascend_without R c.args.key.now (joined c.args.blocks.now.items ++ c.args.last.now.items) c.requires.ascend)
