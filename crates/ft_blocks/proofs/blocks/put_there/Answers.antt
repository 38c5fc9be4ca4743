use Rattle.std.proofs.Common.{sym, subst, ap, ◌∙◌, arith, ◌++◌, length, ◌≤◌, List}
use Rattle.ft_blocks.specs.Sorted.{Ascend}
use Rattle.ft_blocks.specs.Blocks.{joined}
use Rattle.ft_blocks.proofs.Appends.{ascend_first, ascend_second}
use Rattle.ft_blocks.proofs.Edited.{put_behind}
use Rattle.ft_blocks.proofs.Order.{ascend_put, below_blocks}
use Rattle.ft_blocks.proofs.blocks.put_there.Goals as goal

pub put_at-requires-clause-ascend : goal.put_at-requires-clause-ascend
put_at-requires-clause-ascend g c = ascend_first g.K.Ord.cmp (joined c.args.blocks.now.items) c.args.last.now.items c.requires.ascend

pub put_in-requires : goal.put_in-requires
put_in-requires g c = ascend_second g.K.Ord.cmp (joined c.args.blocks.now.items) c.args.last.now.items c.requires.ascend

pub returns-in_ok-put_in-clause-ok : goal.returns-in_ok-put_in-clause-ok
returns-in_ok-put_in-clause-ok g c =
    let R = g.K.Ord.cmp in
    let bs = c.args.blocks.now in
    let k = c.args.key in
    let le : length bs.items ≤ c.args.at = omega (arith, c.if-at-len.false, bs.ok.0) in
    ap (λ (l : List _). joined bs.items ++ l) c.in_ok-put_in.ensures.ok
    ∙ sym (put_behind g.met.K.Ord.total k c.args.value (joined bs.items) c.args.last.now.items (below_blocks R bs.items k c.args.at c.requires.place le))

pub returns-in_ok-put_at-clause-ascend : goal.returns-in_ok-put_at-clause-ascend
returns-in_ok-put_at-clause-ascend g c =
    let R = g.K.Ord.cmp in
    subst (Ascend R) (sym (c.in_ok-put_at.ensures.ok c.args.last.now.items))
    (ascend_put g.met.K.Ord.total c.args.key c.args.value (joined c.args.blocks.now.items ++ c.args.last.now.items) c.requires.ascend)

pub returns-in_ok-put_in-clause-ascend : goal.returns-in_ok-put_in-clause-ascend
returns-in_ok-put_in-clause-ascend g c =
    let R = g.K.Ord.cmp in
    subst (Ascend R) (sym (returns-in_ok-put_in-clause-ok g c))
    (ascend_put g.met.K.Ord.total c.args.key c.args.value (joined c.args.blocks.now.items ++ c.args.last.now.items) c.requires.ascend)
