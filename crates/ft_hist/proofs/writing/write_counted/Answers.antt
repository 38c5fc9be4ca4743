use Rattle.std.proofs.lemmas.Result.{on_err_weaker, on_ok_weaker}
use Rattle.ft_text.proofs.Appends.{added_three, added_four}
use Rattle.ft_text.proofs.Fronts.{front_before}
use Rattle.ft_hist.proofs.writing.write_counted.Goals as goal

pub returns-clause-ok : goal.returns-clause-ok
returns-clause-ok c =
    let keys = rw c.keys.ensures.value at c.in_ok-write_keys.ensures.ok in
    on_ok_weaker c.write_values.result (added_four c.args.text.now.items c.extend_from_slice.new.self.items c.write_keys.new.text.items c.extend_from_slice-2.new.self.items c.write_values.new.text.items _ _ _ _ c.in_ok-extend_from_slice.ensures.items keys c.in_ok-extend_from_slice-2.ensures.items) c.write_values.ensures.ok

pub returns-clause-err : goal.returns-clause-err
returns-clause-err c =
    let added = added_three c.args.text.now.items c.extend_from_slice.new.self.items c.write_keys.new.text.items c.extend_from_slice-2.new.self.items _ _ _ c.in_ok-extend_from_slice.ensures.items c.in_ok-write_keys.ensures.ok c.in_ok-extend_from_slice-2.ensures.items in
    on_err_weaker c.write_values.result (front_before c.args.text.now.items c.extend_from_slice-2.new.self.items c.write_values.new.text.items _ added) c.write_values.ensures.err
