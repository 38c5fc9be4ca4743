use Rattle.std.proofs.Common.{◌≡◌, length, inr, false, true, eqb, rules}
use Rattle.std.proofs.lemmas.Result.{err_from_is_err_and}
use Rattle.ft_filter.proofs.Steps.{gives_fault, answer_fault, answer_more, answer_whole}
use Rattle.ft_filter.proofs.reading.parse.Goals as goal

pub returns-in_err-parsed-clause-exact : goal.returns-in_err-parsed-clause-exact
returns-in_err-parsed-clause-exact c =
    let p = err_from_is_err_and c.from_residual.result c.from_residual.ensures.1 in
    rw (p.1, p.2) (gives_fault c.in_err-parsed.field-0.0 (answer_fault c.args.event c.args.text.now _) c.in_err-parsed.ensures.reads)

pub returns-then-not-is_empty-clause-exact : goal.returns-then-not-is_empty-clause-exact
returns-then-not-is_empty-clause-exact c =
    let some : eqb (length c.skip-rest.result.now) 0 ≡ false = search rules in
    inr (answer_more c.args.event c.args.text.now _ _ c.skip-rest.result.now c.place.result c.in_ok-parsed.ensures.reads c.skip-rest.ensures.value some c.place.ensures)

pub returns-clause-exact : goal.returns-clause-exact
returns-clause-exact c =
    let none : eqb (length c.skip-rest.result.now) 0 ≡ true = search rules in
    answer_whole c.args.event c.args.text.now _ _ c.skip-rest.result.now c.new.result.tree c.in_ok-parsed.ensures.reads c.skip-rest.ensures.value none c.new.ensures.tree
