use Rattle.std.proofs.Common.{◌++◌, sym, subst, ap, ◌∙◌}
use Rattle.std.specs.FinMap.{put, find}
use Rattle.ft_blocks.specs.Sorted.{Ascend, without}
use Rattle.ft_blocks.specs.Blocks.{joined}
use Rattle.ft_blocks.specs.inner.Moves.{all_before}
use Rattle.ft_blocks.proofs.Order.{ascend_put, ascend_without}
use Rattle.ft_blocks.proofs.Shifts.{below_later, none_without}
use Rattle.ft_blocks.proofs.moves.move_along.Goals as goal

pub pass_on-place-requires-clause-ascend : goal.pass_on-place-requires-clause-ascend
pass_on-place-requires-clause-ascend g c =
    let R = g.K.Ord.cmp in
    let whole = joined c.args.blocks.now.items ++ c.args.last.now.items in
    let others = rw (c.deref.ensures.value, c.deref-2.ensures.value) at c.place_of-place.ensures.others in
    rw c.deref-3.ensures.value (subst (Ascend R) (sym others) (ascend_without R c.args.from.now whole c.requires.ascend))

pub pass_on-place-requires-clause-before : goal.pass_on-place-requires-clause-before
pass_on-place-requires-clause-before g c =
    let before = rw (c.deref.ensures.value, c.deref-2.ensures.value) at c.place_of-place.ensures.before in
    let front = all_before c.args.blocks.now.items c.args.last.now.items c.place_of-place.result.0 c.place_of-place.result.1 in
    rw c.deref-3.ensures.value (below_later g.met.K.Ord.total c.args.from.now c.args.to.0 front c.requires.later before)

pub settle-requires-clause-ascend : goal.settle-requires-clause-ascend
settle-requires-clause-ascend g c =
    let R = g.K.Ord.cmp in
    let whole = joined c.args.blocks.now.items ++ c.args.last.now.items in
    let others = rw (c.deref.ensures.value, c.deref-2.ensures.value) at c.place_of-place.ensures.others in
    let passed = rw c.deref-3.ensures.value at c.pass_on-place.ensures.others in
    subst (Ascend R) (sym (passed ∙ others)) (ascend_without R c.args.from.now whole c.requires.ascend)

pub settle-requires-clause-absent : goal.settle-requires-clause-absent
settle-requires-clause-absent g c =
    let R = g.K.Ord.cmp in
    let whole = joined c.args.blocks.now.items ++ c.args.last.now.items in
    let others = rw (c.deref.ensures.value, c.deref-2.ensures.value) at c.place_of-place.ensures.others in
    let passed = rw c.deref-3.ensures.value at c.pass_on-place.ensures.others in
    ap (find R c.args.to.0) (passed ∙ others) ∙ none_without R c.args.to.0 c.args.from.now whole c.requires.absent

pub returns-clause-ascend : goal.returns-clause-ascend
returns-clause-ascend g c =
    let R = g.K.Ord.cmp in
    let whole = joined c.args.blocks.now.items ++ c.args.last.now.items in
    let others = rw (c.deref.ensures.value, c.deref-2.ensures.value) at c.place_of-place.ensures.others in
    let passed = rw c.deref-3.ensures.value at c.pass_on-place.ensures.others in
    subst (Ascend R) (sym (c.settle.ensures.put ∙ ap (put R c.args.to.0 c.args.to.1) (passed ∙ others)))
    (ascend_put g.met.K.Ord.total c.args.to.0 c.args.to.1 (without R c.args.from.now whole) (ascend_without R c.args.from.now whole c.requires.ascend))
