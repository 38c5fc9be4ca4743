use Rattle.std.proofs.lemmas.Result.{err_from_is_err_and}
use Rattle.ft_text.proofs.Appends.{added_three}
use Rattle.ft_text.proofs.Fronts.{front_past}
use Rattle.ft_table.proofs.text.write_sums.Goals as goal

pub returns-in_err-write_in_10-clause-err : goal.returns-in_err-write_in_10-clause-err
returns-in_err-write_in_10-clause-err c =
    let p = err_from_is_err_and c.from_residual-in_err-write_in_10.result c.from_residual-in_err-write_in_10.ensures.1 in
    let now = c.loop-at.text.items in
    let named = c.extend_from_slice-in-loop-at-2.new.self.items in
    let added = added_three now c.extend_from_slice.new.self.items c.extend_from_slice-in-loop-at.new.self.items named _ _ _ c.in_ok-extend_from_slice.ensures.items c.in_ok-extend_from_slice-2.ensures.items c.in_ok-extend_from_slice-3.ensures.items in
    rw p.1 (front_past c.args.text.now.items now named c.write_in_10.new.text.items _ c.loop-at.invariant.front added c.in_err-write_in_10.ensures.err)
