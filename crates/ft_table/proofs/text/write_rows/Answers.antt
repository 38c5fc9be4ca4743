use Rattle.std.proofs.lemmas.List.{take_all}
use Rattle.std.proofs.lemmas.Result.{on_err_weaker, on_ok_weaker}
use Rattle.ft_table.specs.Text.{rows_text}
use Rattle.ft_text.proofs.Appends.{added_two}
use Rattle.ft_text.proofs.Fronts.{front_of_front}
use Rattle.ft_table.proofs.text.write_rows.Goals as goal

pub returns-clause-ok : goal.returns-clause-ok
unfolding rows_text
returns-clause-ok c =
    let rows = c.args.rows.now in
    let all = rw (take_all c.loop-row.row-index rows c.loop-row-test.false) at c.loop-row.invariant.added in
    on_ok_weaker c.write_totals.result (added_two c.args.text.now.items c.loop-row.text.items c.write_totals.new.text.items _ _ all) c.write_totals.ensures.ok

pub returns-clause-err : goal.returns-clause-err
returns-clause-err c =
    on_err_weaker c.write_totals.result (front_of_front c.args.text.now.items c.loop-row.text.items c.write_totals.new.text.items c.loop-row.invariant.front) c.write_totals.ensures.err
