use Rattle.std.proofs.Common.{◌≡◌, ◌++◌, subst}
use Rattle.std.specs.Prelude.{OnOk}
use Rattle.std.proofs.lemmas.Result.{err_from_is_err_and, on_err_weaker, on_ok_weaker}
use Rattle.ft_table.specs.Text.{row_text}
use Rattle.ft_text.proofs.Appends.{added_two, added_three, added_four}
use Rattle.ft_text.proofs.Fronts.{front_before}
use Rattle.ft_table.proofs.text.write_row.Goals as goal

pub returns-in_err-write_in_10-clause-err : goal.returns-in_err-write_in_10-clause-err
returns-in_err-write_in_10-clause-err c =
    let p = err_from_is_err_and c.from_residual-in_err-write_in_10.result c.from_residual-in_err-write_in_10.ensures.1 in
    let added = added_two c.args.text.now.items c.write_key.new.text.items c.extend_from_slice.new.self.items _ _ c.in_ok-write_key.ensures.ok c.in_ok-extend_from_slice.ensures.items in
    rw p.1 (front_before c.args.text.now.items c.extend_from_slice.new.self.items c.write_in_10.new.text.items _ added c.in_err-write_in_10.ensures.err)

pub returns-clause-ok : goal.returns-clause-ok
unfolding row_text
returns-clause-ok c =
    let old = c.args.text.now.items in
    subst (λ row. OnOk c.write_sums.result (c.write_sums.new.text.items ≡ old ++ row_text c.args.trigger.now row)) c.row.view_is
    (on_ok_weaker c.write_sums.result (added_four old c.write_key.new.text.items c.extend_from_slice.new.self.items c.write_in_10.new.text.items c.write_sums.new.text.items _ _ _ _
    c.in_ok-write_key.ensures.ok c.in_ok-extend_from_slice.ensures.items c.in_ok-write_in_10.ensures.ok)
    c.write_sums.ensures.ok)

pub returns-clause-err : goal.returns-clause-err
returns-clause-err c =
    let old = c.args.text.now.items in
    let added = added_three old c.write_key.new.text.items c.extend_from_slice.new.self.items c.write_in_10.new.text.items _ _ _ c.in_ok-write_key.ensures.ok c.in_ok-extend_from_slice.ensures.items c.in_ok-write_in_10.ensures.ok in
    on_err_weaker c.write_sums.result (front_before old c.write_in_10.new.text.items c.write_sums.new.text.items _ added) c.write_sums.ensures.err
