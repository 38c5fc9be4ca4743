use Rattle.std.proofs.Common.{◌∙◌, ◌++◌, List, ℕ, sym, ap, subst, Ok, Err, refl}
use Rattle.std.proofs.lemmas.Result.{on_ok_weaker}
use Rattle.ft_event.specs.declared.fault.Line.TheVariants as lines
use Rattle.ft_losses.specs.Notes.{Silent, SkippedIs, quiet_note}
use Rattle.ft_waits.proofs.ReadingLines.{note-by, skipped-by}
use Rattle.ft_waits.proofs.reading.Reading.take_other.Goals as goal

pub returns-in-Ok-true-clause-ok : goal.returns-in-Ok-true-clause-ok
returns-in-Ok-true-clause-ok c =
    let exact = rw c.in-Ok-true.field-0-test at c.in-Ok-true.ensures.exact in
    on_ok_weaker c.take_event.result (λ takes line before told like reads. takes line before told (like.0 ∙ sym exact ∙ ap (λ e. Ok (lines.Event e)) (sym c.borrowed.ensures)) reads) c.take_event.ensures.ok

pub returns-in-Ok-false-clause-ok : goal.returns-in-Ok-false-clause-ok
returns-in-Ok-false-clause-ok c =
    let exact = rw c.in-Ok-false.field-0-test at c.in-Ok-false.ensures.exact in
    on_ok_weaker c.take_skipped.result (λ takes line before told like reads.
    let same = like.1 (sym exact) in
    let note = skipped-by c.args.line.now c.mark_of.result c.mark_of.ensures.meaning c.mark_of.ensures.none in
    takes line before (told ++ c.args.out.now.items) (like.0 ∙ sym exact)
    (note-by line (Ok lines.Skip) (quiet_note c.mark_of.result) (like.0 ∙ sym exact) (subst (λ (l : List ℕ). SkippedIs l (quiet_note c.mark_of.result)) (sym same) note)) reads) c.take_skipped.ensures.ok

pub returns-in-Err-clause-ok : goal.returns-in-Err-clause-ok
returns-in-Err-clause-ok c =
    on_ok_weaker c.take_bad.result (λ takes line before told like reads.
    let is = like.0 ∙ sym c.in-Err.ensures.exact in
    takes line before (told ++ c.args.out.now.items) is (note-by line (Err c.in-Err.fault) Silent is refl) reads) c.take_bad.ensures.ok
