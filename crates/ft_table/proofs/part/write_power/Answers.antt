use Rattle.std.proofs.Common.{◌≡◌, decimal, ◌∙◌}
use Rattle.std.proofs.lemmas.Result.{on_err_weaker, on_ok_weaker}
use Rattle.ft_table.specs.Text.{left_aligned}
use Rattle.ft_text.proofs.Appends.{added_two, added_three}
use Rattle.ft_text.proofs.Fronts.{front_before}
use Rattle.ft_table.proofs.part.write_power.Goals as goal

pub returns-clause-ok : goal.returns-clause-ok
unfolding left_aligned
returns-clause-ok c =
    let digits : c.as_bytes-digits.result.now ≡ decimal c.args.power = c.as_bytes-digits.ensures.value ∙ c.format.ensures.text in
    let number = rw digits at c.in_ok-extend_from_slice-2.ensures.items in
    let spaces = rw digits at c.write_fill.ensures.ok in
    on_ok_weaker c.write_fill.result (added_three c.args.text.now.items c.extend_from_slice.new.self.items c.extend_from_slice-2.new.self.items c.write_fill.new.text.items _ _ _ c.in_ok-extend_from_slice.ensures.items number) spaces

pub returns-clause-err : goal.returns-clause-err
returns-clause-err c =
    let added = added_two c.args.text.now.items c.extend_from_slice.new.self.items c.extend_from_slice-2.new.self.items _ _ c.in_ok-extend_from_slice.ensures.items c.in_ok-extend_from_slice-2.ensures.items in
    on_err_weaker c.write_fill.result (front_before c.args.text.now.items c.extend_from_slice-2.new.self.items c.write_fill.new.text.items _ added) c.write_fill.ensures.err
