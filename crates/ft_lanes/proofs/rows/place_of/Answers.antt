-- A look-up in the rows that are not struck.
use Rattle.std.proofs.Common.{refl, sym, ◌∙◌}
use Rattle.ft_lanes.proofs.RowLines.{row-at, missing-held, struck-held, found-held, held-ne}
use Rattle.ft_lanes.proofs.rows.place_of.Goals as goal

pub returns-in_err-i : goal.returns-in_err-i
returns-in_err-i c = c.from_residual.ensures ∙ sym (missing-held c.args.rows.now c.requires c.args.line (c.in_err-i.ensures.none refl))

pub returns-then-place : goal.returns-then-place
returns-then-place c =
    let at = row-at c.args.rows.now c.args.line c.in_ok-i.i (0, 0) c.in_ok-i.ensures.within (c.in_ok-i.ensures.found (0, 0)) in
    sym (struck-held c.args.rows.now c.requires c.args.line c.in_ok-i.i _ at c.if-place.true)

pub returns-else-place : goal.returns-else-place
returns-else-place c =
    let at = row-at c.args.rows.now c.args.line c.in_ok-i.i (0, 0) c.in_ok-i.ensures.within (c.in_ok-i.ensures.found (0, 0)) in
    sym (found-held c.args.rows.now c.requires c.args.line c.in_ok-i.i _ at (held-ne _ c.if-place.false))
