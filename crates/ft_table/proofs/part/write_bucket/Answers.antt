use Rattle.std.proofs.lemmas.Result.{on_err_weaker}
use Rattle.ft_text.proofs.Appends.{added_three}
use Rattle.ft_text.proofs.Fronts.{front_before}
use Rattle.ft_table.proofs.part.write_bucket.Goals as goal

pub returns-clause-err : goal.returns-clause-err
returns-clause-err c =
    let added = added_three c.args.text.now.items c.extend_from_slice.new.self.items c.write_decimal.new.text.items c.extend_from_slice-2.new.self.items _ _ _ c.in_ok-extend_from_slice.ensures.items c.in_ok-write_decimal.ensures.ok c.in_ok-extend_from_slice-2.ensures.items in
    on_err_weaker c.write_decimal-2.result (front_before c.args.text.now.items c.extend_from_slice-2.new.self.items c.write_decimal-2.new.text.items _ added) c.write_decimal-2.ensures.err
