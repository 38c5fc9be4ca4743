use Rattle.std.proofs.Common.{refl, ap, sym, arith, Err, Some, ◌∙◌, ◌+◌, ℕ}
use Rattle.std.proofs.lemmas.Result.{err_from_is_err_and}
use Rattle.ft_waits.specs.declared.fault.WaitsFault.TheVariants as faults
use Rattle.ft_losses.specs.Notes.{Silent}
use Rattle.ft_waits.proofs.ReadingLines.{misses-silent, reads-more, fails-more, too-long, lines-full, bad-full, loud, refuses-bad, skips-bad}
use Rattle.ft_waits.proofs.reading.Reading.take_bad.Goals as goal

pub returns-in_err-line-clause-err : goal.returns-in_err-line-clause-err
returns-in_err-line-clause-err c =
    let p = err_from_is_err_and c.from_residual.result c.from_residual.ensures.1 in
    let full = c.in_err-line.ensures.full in
    let count = full.1 in
    rw (p.1, p.2) (λ line before told is reads. too-long c.args.self.now line before told _ reads full.0 (lines-full c.args.self.now before told reads (omega (arith, count))))

pub returns-in_err-skip-clause-err : goal.returns-in_err-skip-clause-err
returns-in_err-skip-clause-err c =
    let p = err_from_is_err_and c.from_residual-in_err-skip.result c.from_residual-in_err-skip.ensures.1 in
    let why = c.in_err-skip.ensures.err in
    rw (p.1, p.2) (λ line before told is reads. fails-more c.args.self.now (Err c.args.fault) line before told _ is reads
    (refuses-bad c.args.self.now.bad_lines (c.args.self.now.read.lines + 1) c.args.self.now.state.latest c.args.fault why.0
    ∙ ap (λ (n : ℕ). Some (faults.BadLine (record { line = n; fault = c.args.fault }))) (sym c.in_ok-line.ensures.ok) ∙ ap (λ f. Some f) (sym why.1)))

pub returns-in_err-self-clause-err : goal.returns-in_err-self-clause-err
returns-in_err-self-clause-err c =
    let p = err_from_is_err_and c.from_residual-in_err-self.result c.from_residual-in_err-self.ensures.1 in
    let full = c.in_err-self.ensures.full in
    let count = full.1 in
    rw (p.1, p.2) (λ line before told is reads. too-long c.args.self.now line before told _ reads full.0 (bad-full c.args.self.now before told reads (omega (arith, count))))

pub returns-clause-ok : goal.returns-clause-ok
returns-clause-ok c = λ line before told is noted reads.
    reads-more c.args.self.now _ (Err c.args.fault) line before told told is reads refl
    (loud c.args.self.now.read c.in_ok-line.line c.in_ok-self.field-0 c.args.fault c.unwrap_or.result c.in_ok-line.ensures.ok c.in_ok-self.ensures.ok c.unwrap_or.ensures)
    (skips-bad c.args.self.now.bad_lines (c.args.self.now.read.lines + 1) c.args.self.now.state.latest c.args.fault c.in_ok-skip.ensures.ok) Silent noted (λ notes keeps number. c.skip-2.ensures notes keeps (c.in_ok-line.ensures.ok ∙ number)) (λ notes counts misses. misses-silent c.args.self.now.state notes misses) reads.state
