use Rattle.std.proofs.Common.{◌≡◌, Option, Some, None, codes, decimal, map, option_map, refl}
use Rattle.std.proofs.lemmas.Result.{err_from_is_err_and, on_ok_weaker, on_err_weaker}
use Rattle.ft_text.proofs.Fronts.{front_before}
use Rattle.ft_fields.specs.declared.event.Name.{Name}
use Rattle.ft_filter.specs.Tree.{Tree, Condition}
use Rattle.ft_hist.specs.Canonical.{canonical, listed, sort_text, onmatch_text, if_text}
use Rattle.ft_hist.proofs.Appends.{added_eight}
use Rattle.ft_hist.proofs.writing.write_trigger.Goals as goal

-- a filter's condition has the filter's tree
trees_of_conditions : (event : Name) (filter : Option Tree) → option_map (λ (f : Condition). f.tree) (option_map {U = Condition} (λ tree. record { event = event; tree = tree }) filter) ≡ filter
trees_of_conditions event None = refl
trees_of_conditions event (Some tree) = refl

pub returns-clause-ok : goal.returns-clause-ok
unfolding canonical
returns-clause-ok c =
    let hist = c.args.trigger.now in
    let variable = rw c.variable.ensures at c.in_ok-write_variable.ensures.ok in
    let filter = rw (c.filter.ensures, trees_of_conditions hist.event hist.filter) at c.write_filter.ensures.ok in
    on_ok_weaker c.write_filter.result (added_eight c.args.text.now.items c.write_counted.new.text.items c.write_variable.new.text.items c.write_table.new.text.items c.write_onmatch.new.text.items c.write_filter.new.text.items _ _ (codes ":sort=") (listed (map (sort_text hist) hist.sort)) (codes ":size=") (decimal hist.size) (onmatch_text hist.variable hist.onmatch) (if_text hist.filter) c.in_ok-write_counted.ensures.ok variable c.in_ok-write_table.ensures.ok c.in_ok-write_onmatch.ensures.ok) filter

pub returns-in_err-write_counted-clause-err : goal.returns-in_err-write_counted-clause-err
returns-in_err-write_counted-clause-err c =
    let p = err_from_is_err_and c.from_residual.result c.from_residual.ensures.1 in
    rw p.1 c.in_err-write_counted.ensures.err

pub returns-in_err-write_variable-clause-err : goal.returns-in_err-write_variable-clause-err
returns-in_err-write_variable-clause-err c =
    let p = err_from_is_err_and c.from_residual-in_err-write_variable.result c.from_residual-in_err-write_variable.ensures.1 in
    rw p.1 (front_before _ _ _ _ c.in_ok-write_counted.ensures.ok c.in_err-write_variable.ensures.err)

pub returns-in_err-write_table-clause-err : goal.returns-in_err-write_table-clause-err
returns-in_err-write_table-clause-err c =
    let p = err_from_is_err_and c.from_residual-in_err-write_table.result c.from_residual-in_err-write_table.ensures.1 in
    rw p.1 (front_before _ _ _ _ c.in_ok-write_counted.ensures.ok (front_before _ _ _ _ c.in_ok-write_variable.ensures.ok c.in_err-write_table.ensures.err))

pub returns-in_err-write_onmatch-clause-err : goal.returns-in_err-write_onmatch-clause-err
returns-in_err-write_onmatch-clause-err c =
    let p = err_from_is_err_and c.from_residual-in_err-write_onmatch.result c.from_residual-in_err-write_onmatch.ensures.1 in
    rw p.1 (front_before _ _ _ _ c.in_ok-write_counted.ensures.ok (front_before _ _ _ _ c.in_ok-write_variable.ensures.ok (front_before _ _ _ _ c.in_ok-write_table.ensures.ok c.in_err-write_onmatch.ensures.err)))

pub returns-clause-err : goal.returns-clause-err
returns-clause-err c =
    on_err_weaker c.write_filter.result (λ after. front_before _ _ _ _ c.in_ok-write_counted.ensures.ok (front_before _ _ _ _ c.in_ok-write_variable.ensures.ok (front_before _ _ _ _ c.in_ok-write_table.ensures.ok (front_before _ _ _ _ c.in_ok-write_onmatch.ensures.ok after)))) c.write_filter.ensures.err
