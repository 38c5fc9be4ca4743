use Rattle.std.proofs.Common.{◌+◌, inl, inr, arith}
use Rattle.std.proofs.lemmas.Result.{err_from_is_err_and}
use Rattle.ft_text.specs.Lines.{lines_of}
use Rattle.ft_desk_core.specs.Edits.{events_from}
use Rattle.ft_desk_core.proofs.Reading.{read_more, read_whole, read_refused}
use Rattle.ft_desk_core.proofs.events.events_in.Goals as goal

pub returns : goal.returns
returns c = read_whole c.args.text.now c.loop-line.rest.now _ _ c.loop-line.invariant.same c.in_default.ensures.cut

pub loop-line-preserved : goal.loop-line-preserved
loop-line-preserved c =
    let line = c.in-Some.line.now in
    let behind = c.in-Some.behind.now in
    let step = c.in_ok-add_line.ensures.ok (events_from (c.loop-line.number + 1) (lines_of behind)) in
    record {
      same = read_more c.args.text.now c.loop-line.rest.now line behind _ c.loop-line.events c.add_line.new.events c.loop-line.invariant.same c.in-Some.ensures.cut step;
      counted = omega (arith, c.in-Some.ensures.shorter);
    }

pub returns-in_err-add_line : goal.returns-in_err-add_line
returns-in_err-add_line c =
    let line = c.in-Some.line.now in
    let behind = c.in-Some.behind.now in
    let same = err_from_is_err_and c.from_residual.result c.from_residual.ensures.1 in
    rw (same.1, same.2)
    (elim c.in_err-add_line.ensures.err [
      | inl memory ↦ inl memory
      | inr bad ↦ inr (read_refused c.args.text.now c.loop-line.rest.now line behind _ c.loop-line.events _ c.loop-line.invariant.same c.in-Some.ensures.cut (bad (events_from (c.loop-line.number + 1) (lines_of behind))))
    ])
