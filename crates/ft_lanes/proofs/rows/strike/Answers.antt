-- One row is struck, or none.
use Rattle.std.proofs.Common.{refl, sym, ◌∙◌}
use Rattle.ft_lanes.proofs.RowLines.{row-at, missing-held, struck-held, found-held, held-ne, remove-missing, keys-strike, count-strike, places-strike}
use Rattle.ft_lanes.proofs.rows.strike.Goals as goal

pub returns-in_err-i-clause-value : goal.returns-in_err-i-clause-value
returns-in_err-i-clause-value c = c.from_residual.ensures ∙ sym (missing-held c.args.rows.now c.requires c.args.line (c.in_err-i.ensures.none refl))

pub returns-in_err-i-clause-rest : goal.returns-in_err-i-clause-rest
returns-in_err-i-clause-rest c = remove-missing c.args.rows.now c.args.line (missing-held c.args.rows.now c.requires c.args.line (c.in_err-i.ensures.none refl))

pub returns-then-place-clause-value : goal.returns-then-place-clause-value
returns-then-place-clause-value c =
    let at = row-at c.args.rows.now c.args.line c.in_ok-i.i (0, 0) c.in_ok-i.ensures.within (c.in_ok-i.ensures.found (0, 0)) in
    sym (struck-held c.args.rows.now c.requires c.args.line c.in_ok-i.i _ at c.if-place.true)

pub returns-then-place-clause-rest : goal.returns-then-place-clause-rest
returns-then-place-clause-rest c = remove-missing c.args.rows.now c.args.line (sym (returns-then-place-clause-value c))

pub returns-clause-value : goal.returns-clause-value
returns-clause-value c =
    let at = row-at c.args.rows.now c.args.line c.in_ok-i.i (0, 0) c.in_ok-i.ensures.within (c.in_ok-i.ensures.found (0, 0)) in
    sym (found-held c.args.rows.now c.requires c.args.line c.in_ok-i.i _ at (held-ne _ c.if-place.false))

pub returns-clause-rest : goal.returns-clause-rest
returns-clause-rest c =
    let at = row-at c.args.rows.now c.args.line c.in_ok-i.i (0, 0) c.in_ok-i.ensures.within (c.in_ok-i.ensures.found (0, 0)) in
    places-strike c.args.line _ (held-ne _ c.if-place.false) c.args.rows.now c.requires c.in_ok-i.i at

pub returns-clause-lines : goal.returns-clause-lines
returns-clause-lines c =
    let at = row-at c.args.rows.now c.args.line c.in_ok-i.i (0, 0) c.in_ok-i.ensures.within (c.in_ok-i.ensures.found (0, 0)) in
    keys-strike c.args.line _ (held-ne _ c.if-place.false) c.args.rows.now c.in_ok-i.i at

pub returns-clause-count : goal.returns-clause-count
returns-clause-count c =
    let at = row-at c.args.rows.now c.args.line c.in_ok-i.i (0, 0) c.in_ok-i.ensures.within (c.in_ok-i.ensures.found (0, 0)) in
    count-strike c.args.line _ (held-ne _ c.if-place.false) c.args.rows.now c.in_ok-i.i at
