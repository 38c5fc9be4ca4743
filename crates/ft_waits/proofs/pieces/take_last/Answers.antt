use Rattle.std.proofs.Common.{◌≡◌, ◌<◌, ◌++◌, [], ℕ, List, length, sym, ap, subst, ◌∙◌, arith}
use Rattle.std.proofs.lemmas.Grind.{common_steps}
use Rattle.std.proofs.lemmas.Result.{IfErr-weaker}
use Rattle.ft_event.specs.Line.{line_of}
use Rattle.ft_waits.specs.Reading.{history, FailsAt}
use Rattle.ft_waits.specs.inner.Streams.{IsLike, ReadsLines}
use Rattle.ft_waits.specs.Choice.{Choice}
use Rattle.ft_waits.proofs.Cutting.{history-ended, history-last, like-kept, line-kept}
use Rattle.ft_waits.proofs.Streaming.{none-kept, some-kept, on_ok_both}
use Rattle.ft_waits.proofs.pieces.take_last.Goals as goal

pub returns-then-is_empty-clause-reads : goal.returns-then-is_empty-clause-reads
returns-then-is_empty-clause-reads c = λ choice text told reads.
    let empty : c.args.unended.now ≡ [] = grind (arith, common_steps) in
    let none = none-kept reads.rest c.args.unended.now reads.kept empty in
    record {
      by_choice = reads.by_choice;
      reads = subst (λ (lines : List (List ℕ)). ReadsLines c.args.reading.now lines (told ++ c.args.out.now.items)) (sym (history-ended text reads.lines reads.rest reads.cuts none)) reads.reads;
    }

pub returns-clause-reads : goal.returns-clause-reads
returns-clause-reads c =
    let some : 0 < length c.args.unended.now = grind (arith, common_steps) in
    on_ok_both c.take_line.result (λ takes same choice text told reads. record {
      by_choice = same ∙ reads.by_choice;
      reads = subst (λ (lines : List (List ℕ)). ReadsLines c.take_line.new.self lines (told ++ c.take_line.new.out.items))
          (sym (history-last text reads.lines reads.rest reads.cuts reads.unbroken (some-kept reads.rest c.args.unended.now reads.kept some)))
          (takes reads.rest reads.lines told (subst (λ (kept : List ℕ). IsLike kept reads.rest) (sym reads.kept) (like-kept reads.rest)) reads.reads);
    }) c.take_line.ensures.ok c.take_line.ensures.choice

pub returns-clause-fails : goal.returns-clause-fails
returns-clause-fails c =
    let some : 0 < length c.args.unended.now = grind (arith, common_steps) in
    IfErr-weaker c.take_line.result _ _ (λ fault fails choice text told reads.
    subst (λ (by : Choice). FailsAt by.bad_lines (history text) fault) reads.by_choice
    (subst (λ (lines : List (List ℕ)). FailsAt c.args.reading.now.bad_lines lines fault)
    (sym (history-last text reads.lines reads.rest reads.cuts reads.unbroken (some-kept reads.rest c.args.unended.now reads.kept some)))
    (fails reads.rest reads.lines (told ++ c.args.out.now.items) (sym (line-kept reads.rest) ∙ ap line_of (sym reads.kept)) reads.reads))) c.take_line.ensures.err
