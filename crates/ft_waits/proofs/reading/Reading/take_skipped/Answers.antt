use Rattle.std.proofs.Common.{refl, arith, Ok, ◌∙◌}
use Rattle.std.proofs.lemmas.Result.{err_from_is_err_and}
use Rattle.ft_event.specs.declared.fault.Line.TheVariants as lines
use Rattle.ft_losses.specs.Notes.{quiet_note}
use Rattle.ft_waits.proofs.ReadingLines.{misses-marked, reads-more, too-long, lines-full, quiet}
use Rattle.ft_waits.proofs.reading.Reading.take_skipped.Goals as goal

pub returns-in_err-number-clause-err : goal.returns-in_err-number-clause-err
returns-in_err-number-clause-err c =
    let p = err_from_is_err_and c.from_residual.result c.from_residual.ensures.1 in
    let full = c.in_err-number.ensures.full in
    let count = full.1 in
    rw (p.1, p.2) (λ line before told is reads. too-long c.args.self.now line before told _ reads full.0 (lines-full c.args.self.now before told reads (omega (arith, count))))

pub returns-clause-ok : goal.returns-clause-ok
returns-clause-ok c = λ line before told is noted reads.
    reads-more c.args.self.now _ (Ok lines.Skip) line before told told is reads refl (quiet c.args.self.now.read c.in_ok-number.number (Ok lines.Skip) refl c.in_ok-number.ensures.ok) refl (quiet_note c.args.mark) noted (λ notes keeps number. c.skip.ensures notes keeps (c.in_ok-number.ensures.ok ∙ number))
    (λ notes counts misses. misses-marked _ c.args.mark notes (c.notice_mark.ensures.running notes misses.runs) misses.missing misses.starts)
    (record { counts = reads.state.counts; first = reads.state.first; last = reads.state.last; left_out = reads.state.left_out; orders = reads.state.orders })
