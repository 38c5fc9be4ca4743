use Rattle.std.proofs.lemmas.Result.{err_from_is_err_and}
use Rattle.ft_text.proofs.Fronts.{front_past}
use Rattle.ft_hist.proofs.writing.write_values.Goals as goal

pub returns-in_err-write_value-clause-err : goal.returns-in_err-write_value-clause-err
returns-in_err-write_value-clause-err c =
    let p = err_from_is_err_and c.from_residual-in_err-write_value.result c.from_residual-in_err-write_value.ensures.1 in
    rw p.1 (front_past c.args.text.now.items c.loop-at.text.items c.extend_from_slice.new.self.items c.write_value.new.text.items _ c.loop-at.invariant.front c.in_ok-extend_from_slice.ensures.items c.in_err-write_value.ensures.err)
