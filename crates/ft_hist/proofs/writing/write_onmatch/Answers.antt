use Rattle.std.proofs.lemmas.Result.{on_err_weaker}
use Rattle.ft_text.proofs.Appends.{added_two}
use Rattle.ft_text.proofs.Fronts.{front_before}
use Rattle.ft_hist.proofs.writing.write_onmatch.Goals as goal

pub returns-in_ok-write_matching-in-Some-clause-err : goal.returns-in_ok-write_matching-in-Some-clause-err
returns-in_ok-write_matching-in-Some-clause-err c =
    let added = added_two c.args.text.now.items c.extend_from_slice.new.self.items c.write_matching.new.text.items _ _ c.in_ok-extend_from_slice-in-Some.ensures.items c.in_ok-write_matching-in-Some.ensures.ok in
    on_err_weaker c.write_making.result (front_before c.args.text.now.items c.write_matching.new.text.items c.write_making.new.text.items _ added) c.write_making.ensures.err
