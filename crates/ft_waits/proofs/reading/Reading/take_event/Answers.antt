use Rattle.std.proofs.Common.{refl, ap, sym, arith, Ok, Some, ◌∙◌, ◌+◌, ◌++◌}
use Rattle.std.proofs.lemmas.Result.{err_from_is_err_and, IfErr-weaker}
use Rattle.ft_fields.specs.Borrowed.{event_told}
use Rattle.ft_waits.specs.Reading.{events_of}
use Rattle.ft_event.specs.declared.fault.Line.TheVariants as lines
use Rattle.ft_waits.specs.declared.fault.WaitsFault.TheVariants as faults
use Rattle.ft_losses.specs.Notes.{Passed}
use Rattle.ft_waits.proofs.ReadingLines.{note-by, reads-more, fails-more, too-long, lines-full, quiet, in-time, too-early, too-many}
use Rattle.ft_waits.proofs.Streaming.{on_ok_both}
use Rattle.ft_waits.proofs.reading.Reading.take_event.Goals as goal

pub returns-in_err-number-clause-err : goal.returns-in_err-number-clause-err
returns-in_err-number-clause-err c =
    let p = err_from_is_err_and c.from_residual.result c.from_residual.ensures.1 in
    let full = c.in_err-number.ensures.full in
    let count = full.1 in
    rw (p.1, p.2) (λ line before told is reads. too-long c.args.self.now line before told _ reads full.0 (lines-full c.args.self.now before told reads (omega (arith, count))))

pub returns-then-event-self-clause-err : goal.returns-then-event-self-clause-err
returns-then-event-self-clause-err c = λ line before told is reads.
    fails-more c.args.self.now (Ok (lines.Event (event_told c.args.event.now))) line before told (faults.Backwards c.in_ok-number.number) is reads
    (too-early c.args.self.now.bad_lines (c.args.self.now.read.lines + 1) c.args.self.now.state.latest (event_told c.args.event.now) (omega arith) ∙ ap (λ n. Some (faults.Backwards n)) (sym c.in_ok-number.ensures.ok))

pub returns-clause-ok : goal.returns-clause-ok
returns-clause-ok c = on_ok_both c.push.result (λ follows misses line before told is reads.
    reads-more c.args.self.now _ (Ok (lines.Event (event_told c.args.event.now))) line before (told ++ c.args.out.now.items) (told ++ c.push.new.out.items) is reads refl (quiet c.args.self.now.read c.in_ok-number.number (Ok (lines.Event (event_told c.args.event.now))) refl c.in_ok-number.ensures.ok)
    (in-time c.args.self.now.bad_lines (c.args.self.now.read.lines + 1) c.args.self.now.state.latest (event_told c.args.event.now) (omega arith)) (Passed (event_told c.args.event.now)) (note-by line (Ok (lines.Event (event_told c.args.event.now))) (Passed (event_told c.args.event.now)) is refl) (λ notes keeps number. c.in_ok-pass.ensures notes keeps) misses (follows (events_of before) told reads.state)) c.push.ensures.follows c.push.ensures.misses

pub returns-clause-err : goal.returns-clause-err
returns-clause-err c = IfErr-weaker c.push.result _ _ (λ fault fails line before told is reads. too-many c.args.self.now line before told fault reads fails) c.push.ensures.fails

pub returns-clause-choice : goal.returns-clause-choice
returns-clause-choice c = on_ok_both c.push.result (λ without sums i. record { bad_lines = c.args.self.now.bad_lines; without = without i; sums = sums i }) c.push.ensures.left_out c.push.ensures.sums
