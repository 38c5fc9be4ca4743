use Rattle.std.proofs.Common.{sym, arith}
use Rattle.ft_blocks.proofs.Joined.{ascend_at, filled_at}
use Rattle.ft_blocks.proofs.Edited.{put_block, same_block, filled_block, put_filled}
use Rattle.ft_blocks.proofs.Split.{on_err_any}
use Rattle.ft_blocks.proofs.edits.put_at.Goals as goal

pub put_in-requires : goal.put_in-requires
put_in-requires g c =
    let bs = c.args.blocks.now in
    ascend_at g.K.Ord.cmp bs.items c.args.at c.index_mut.result.now c.requires.ascend (omega (arith, c.requires.inside, bs.ok.0)) (sym c.index_mut.ensures.value)

pub returns-in_err-put_in-clause-err : goal.returns-in_err-put_in-clause-err
returns-in_err-put_in-clause-err g c =
    let bs = c.args.blocks.now in
    on_err_any c.from_residual.result (same_block bs.items c.args.at c.index_mut.result.now c.put_in.new.block (omega (arith, c.requires.inside, bs.ok.0)) (sym c.index_mut.ensures.value) c.in_err-put_in.ensures.err)

pub returns-in_err-put_in-clause-filled : goal.returns-in_err-put_in-clause-filled
returns-in_err-put_in-clause-filled g c =
    let bs = c.args.blocks.now in
    let some = filled_at bs.items c.args.at c.index_mut.result.now c.requires.filled (omega (arith, c.requires.inside, bs.ok.0)) (sym c.index_mut.ensures.value) in
    filled_block bs.items c.args.at c.put_in.new.block c.requires.filled (rw c.in_err-put_in.ensures.err some)

pub returns-clause-ok : goal.returns-clause-ok
returns-clause-ok g c rest =
    let bs = c.args.blocks.now in
    put_block g.met.K.Ord.total bs.items c.args.key c.args.value c.args.at c.index_mut.result.now c.put_in.new.block rest (omega (arith, c.requires.inside, bs.ok.0)) (sym c.index_mut.ensures.value) c.requires.place.below c.requires.place.reaches c.in_ok-put_in.ensures.ok

pub returns-clause-filled : goal.returns-clause-filled
returns-clause-filled g c =
    let bs = c.args.blocks.now in
    filled_block bs.items c.args.at c.put_in.new.block c.requires.filled (rw c.in_ok-put_in.ensures.ok (put_filled g.K.Ord.cmp c.args.key c.args.value c.index_mut.result.now.items))
