use Rattle.std.proofs.Common.{◌≡◌, ◌++◌, codes, arith}
use Rattle.std.proofs.lemmas.Grind.{common_steps}
use Rattle.std.proofs.lemmas.Result.{on_err_weaker}
use Rattle.ft_fields.specs.Fields.{field_text}
use Rattle.ft_text.proofs.Fronts.{front_before}
use Rattle.ft_filter.specs.Operators.{op_text}
use Rattle.ft_filter.proofs.writing.write_pred.Goals as goal

pub returns-clause-err : goal.returns-clause-err
returns-clause-err c =
    let old = c.args.text.now.items in
    let mid = c.extend_from_slice-4.new.self.items in
    let added : mid ≡ old ++ (field_text c.args.pred.now.field ++ codes " " ++ op_text c.args.pred.now.op ++ codes " ") = grind (arith, common_steps) in
    on_err_weaker c.write_value.result (front_before old mid c.write_value.new.text.items _ added) c.write_value.ensures.err
