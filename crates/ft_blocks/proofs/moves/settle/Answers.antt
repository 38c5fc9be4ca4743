use Rattle.std.proofs.Common.{◌≤◌, ◌<◌, sym, arith, length}
use Rattle.ft_blocks.proofs.Edited.{filled_block, put_filled}
use Rattle.ft_blocks.proofs.Shifts.{stands_in, stands_behind, ascend_but, but_last, none_behind, settled, settled_last}
use Rattle.std.proofs.Common.{subst}
use Rattle.ft_blocks.specs.Sorted.{Ascend}
use Rattle.ft_blocks.specs.Blocks.{joined}
use Rattle.std.specs.List.{remove}
use Rattle.ft_blocks.proofs.Appends.{ascend_second}
use Rattle.ft_blocks.proofs.moves.settle.Goals as goal

pub trade-requires-clause-inside : goal.trade-requires-clause-inside
trade-requires-clause-inside g c =
    let bs = c.args.blocks.now in
    let b = c.index_mut.result.now in
    let lt : c.args.place.0 < length bs.items = omega (arith, c.if-at-len.true, c.len.ensures, bs.ok.0) in
    let at : c.args.place.1 < length b.items = stands_in bs.items c.args.last.now.items c.args.place.0 c.args.place.1 b lt (sym c.index_mut.ensures.value) c.requires.stands in
    omega (arith, at, b.ok.0)

pub trade-requires-clause-ascend : goal.trade-requires-clause-ascend
trade-requires-clause-ascend g c =
    let bs = c.args.blocks.now in
    let lt : c.args.place.0 < length bs.items = omega (arith, c.if-at-len.true, c.len.ensures, bs.ok.0) in
    ascend_but g.K.Ord.cmp bs.items c.args.last.now.items c.args.place.0 c.args.place.1 c.index_mut.result.now lt (sym c.index_mut.ensures.value) c.requires.ascend

pub trade-requires-else-at-len-clause-inside : goal.trade-requires-else-at-len-clause-inside
trade-requires-else-at-len-clause-inside g c =
    let bs = c.args.blocks.now in
    let last = c.args.last.now in
    let le : length bs.items ≤ c.args.place.0 = omega (arith, c.if-at-len.false, c.len.ensures, bs.ok.0) in
    omega (arith, (stands_behind bs.items last.items c.args.place.0 c.args.place.1 le c.requires.stands).1, last.ok.0)

pub trade-requires-else-at-len-clause-ascend : goal.trade-requires-else-at-len-clause-ascend
trade-requires-else-at-len-clause-ascend g c =
    let R = g.K.Ord.cmp in
    let bs = c.args.blocks.now in
    let last = c.args.last.now in
    let le : length bs.items ≤ c.args.place.0 = omega (arith, c.if-at-len.false, c.len.ensures, bs.ok.0) in
    let end = (stands_behind bs.items last.items c.args.place.0 c.args.place.1 le c.requires.stands).0 in
    ascend_second R (joined bs.items) (remove last.items c.args.place.1) (subst (Ascend R) (but_last bs.items last.items c.args.place.0 c.args.place.1 end) c.requires.ascend)

pub returns-then-at-len-clause-filled : goal.returns-then-at-len-clause-filled
returns-then-at-len-clause-filled g c =
    filled_block c.args.blocks.now.items c.args.place.0 c.trade.new.block c.requires.filled
    (rw c.trade.ensures (put_filled g.K.Ord.cmp c.args.entry.0 c.args.entry.1 (remove c.index_mut.result.now.items c.args.place.1)))

pub returns-then-at-len-clause-put : goal.returns-then-at-len-clause-put
returns-then-at-len-clause-put g c =
    let R = g.K.Ord.cmp in
    let bs = c.args.blocks.now in
    let last = c.args.last.now.items in
    let lt : c.args.place.0 < length bs.items = omega (arith, c.if-at-len.true, c.len.ensures, bs.ok.0) in
    settled g.met.K.Ord.total bs.items last c.args.entry.0 c.args.entry.1 c.args.place.0 c.args.place.1 c.index_mut.result.now c.trade.new.block lt (sym c.index_mut.ensures.value)
    c.requires.before c.requires.behind (none_behind R bs.items last c.args.entry.0 c.args.place.0 c.args.place.1 c.requires.absent) c.trade.ensures

pub returns-else-at-len-clause-put : goal.returns-else-at-len-clause-put
returns-else-at-len-clause-put g c =
    let bs = c.args.blocks.now in
    let last = c.args.last.now.items in
    let le : length bs.items ≤ c.args.place.0 = omega (arith, c.if-at-len.false, c.len.ensures, bs.ok.0) in
    let end = (stands_behind bs.items last c.args.place.0 c.args.place.1 le c.requires.stands).0 in
    settled_last g.met.K.Ord.total bs.items last c.trade-else-at-len.new.block.items c.args.entry.0 c.args.entry.1 c.args.place.0 c.args.place.1 end c.requires.before c.trade-else-at-len.ensures
