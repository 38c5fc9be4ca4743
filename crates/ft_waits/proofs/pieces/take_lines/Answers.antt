use Rattle.std.proofs.Common.{refl, ap, ◌∙◌}
use Rattle.std.proofs.lemmas.Result.{err_from_is_err_and}
use Rattle.ft_waits.specs.Choice.{Choice}
use Rattle.ft_waits.proofs.Streaming.{reads-nothing, reads-line, fails-line}
use Rattle.ft_waits.proofs.pieces.take_lines.Goals as goal

pub loop-line-init : goal.loop-line-init
loop-line-init c = record { reads = reads-nothing c.args.reading.now c.args.out.now.items c.args.text.now; choice = refl }

pub loop-line-preserved : goal.loop-line-preserved
loop-line-preserved c = record {
  reads = reads-line c.args.reading.now c.loop-line.reading c.take_line.new.self c.args.out.now.items c.loop-line.out.items c.take_line.new.out.items c.args.text.now c.loop-line.rest.now c.in-Some.line.now c.in-Some.behind.now
      c.in-Some.ensures.cut c.in-Some.ensures.line c.loop-line.invariant.reads c.in_ok-take_line.ensures.ok;
  choice = c.in_ok-take_line.ensures.choice ∙ c.loop-line.invariant.choice;
}

pub returns-in_err-take_line-clause-fails : goal.returns-in_err-take_line-clause-fails
returns-in_err-take_line-clause-fails c =
    let p = err_from_is_err_and c.from_residual.result c.from_residual.ensures.1 in
    rw (p.1, p.2) (fails-line c.args.reading.now c.loop-line.reading c.args.out.now.items c.loop-line.out.items c.args.text.now c.loop-line.rest.now c.in-Some.line.now c.in-Some.behind.now _
    c.in-Some.ensures.cut c.in-Some.ensures.line (ap (λ (choice : Choice). choice.bad_lines) c.loop-line.invariant.choice) c.loop-line.invariant.reads c.in_err-take_line.ensures.err)
