use Rattle.std.proofs.lemmas.Result.{on_err_weaker}
use Rattle.ft_text.proofs.Fronts.{front_before}
use Rattle.ft_hist.proofs.writing.write_key.Goals as goal

pub returns-clause-err : goal.returns-clause-err
returns-clause-err c = on_err_weaker c.write.result (front_before c.args.text.now.items c.extend_from_slice.new.self.items c.write.new.text.items _ c.in_ok-extend_from_slice.ensures.items) c.write.ensures.err
