use Rattle.std.proofs.Common.{◌≡◌, ◌<◌, ℕ, map, List, Vec, Global, Ok, Err, inr, length, refl, sym, ap, ◌∙◌, arith}
use Rattle.std.proofs.KnownBytes.{Keeps-refl}
use Rattle.std.proofs.lemmas.Bool.{eqb-true, eqb-false}
use Rattle.std.proofs.lemmas.List.{nil_from_length}
use Rattle.std.proofs.lemmas.Result.{err_from_is_err_and}
use Rattle.ft_desk.specs.Run.{asking_limit}
use Rattle.ft_desk.proofs.Progress.{begins, piece_within, reads_part, reads_line, line_of_piece}
use Rattle.ft_desk.proofs.Endings.{line_begins, last_begins, ends, ends_with, gives_up, taking_fails, line_fails, taking_unwritten, asked_failing, asked_well}
use Rattle.ft_desk.proofs.running.answer_script.Goals.{then-not-is_empty+in_ok-refused-in-End, else-not-is_empty, in-Part, in-Line+in_ok-refused-in-Line}
use Rattle.ft_desk.proofs.running.answer_script.Goals as goal

abbrev texts_of : List (Vec ℕ Global) → List (List ℕ)
texts_of files = map (λ f. f.items) files

pub loop-turn-init : goal.loop-turn-init
loop-turn-init g c = record {
  progress = rw c.new-piece.ensures.items (begins _ _ _ _ _ c.requires.empty);
  made = c.requires.unasked.made;
  well = c.requires.unasked.failed;
  unfailed = c.requires.unwritten.failed;
  flushed = refl;
  same_reader = refl;
  same_writer = refl;
}

pub take_part-requires : goal.take_part-requires
take_part-requires g c = record {
  room = omega (arith, piece_within _ c.loop-turn.invariant.progress);
  well = c.loop-turn.invariant.well;
}

pub returns-in_err-take_part : goal.returns-in_err-take_part
returns-in_err-take_part g c =
    let p = err_from_is_err_and c.from_residual.result c.from_residual.ensures.1 in
    let at = c.loop-turn.invariant in
    let turn : c.loop-turn.script.asked.made < asking_limit = omega (arith, at.made) in
    rw (p.1, p.2) (record {
      ends = taking_fails _ _ _ _ c.take_part.new.piece.items _ _ _ _ _ _ at.progress c.in_err-take_part.field-0.0 turn c.in_err-take_part.ensures.gives;
      turns = omega (arith, c.in_err-take_part.ensures.made);
      asks = asked_failing c.in_err-take_part.field-0.0 c.take_part.new.script.asked c.in_err-take_part.ensures.failed;
      failed = taking_unwritten c.in_err-take_part.field-0.0 _ _ _ _ c.in_err-take_part.ensures.gives at.unfailed;
      flushed = at.flushed;
      same_reader = c.in_err-take_part.ensures.same ∙ at.same_reader;
      same_writer = at.same_writer;
    })

pub returns-in_err-refused-in-Line : goal.returns-in_err-refused-in-Line
returns-in_err-refused-in-Line g c =
    let p = err_from_is_err_and c.from_residual-in_err-refused-in-Line.result c.from_residual-in_err-refused-in-Line.ensures.1 in
    let at = c.loop-turn.invariant in
    let turn : c.loop-turn.script.asked.made < asking_limit = omega (arith, at.made) in
    let took = rw c.in-Line.is at c.in_ok-take_part.ensures.gives in
    let means = g.S.Interpreter.means (texts_of c.args.files.now) in
    let piece = c.take_part.new.piece.items in
    let fault = c.in_err-refused-in-Line.field-0.0 in
    let rest = g.R.Read.remaining c.take_part.new.script.reader.now in
    let later = g.W.Write.contents c.answer_line.new.out.writer.now in
    let held = g.S.Interpreter.base c.answer_line.new.interpreter in
    let gives = line_of_piece means (g.S.Interpreter.base c.loop-turn.interpreter) held c.deref.result.now piece (g.W.Write.contents c.loop-turn.out.writer.now) later (Err fault) c.deref.ensures.value c.in_err-refused-in-Line.ensures.gives in
    let next = line_begins means _ _ _ piece _ _ _ rest _ _ at.progress turn took in
    rw (p.1, p.2) (record {
      ends = line_fails means _ _ _ piece _ _ _ rest _ _ at.progress fault later held next gives;
      turns = omega (arith, c.in_ok-take_part.ensures.made);
      asks = asked_well means (g.S.Interpreter.base c.loop-turn.interpreter) held piece fault _ later gives c.take_part.new.script.asked c.in_ok-take_part.ensures.failed;
      failed = c.in_err-refused-in-Line.ensures.failed;
      flushed = c.in_err-refused-in-Line.ensures.flushed ∙ at.flushed;
      same_reader = c.in_ok-take_part.ensures.same ∙ at.same_reader;
      same_writer = c.in_err-refused-in-Line.ensures.same ∙ at.same_writer;
    })

pub returns-in_err-refused-in-End : goal.returns-in_err-refused-in-End
returns-in_err-refused-in-End g c =
    let p = err_from_is_err_and c.from_residual-in_err-refused-in-End.result c.from_residual-in_err-refused-in-End.ensures.1 in
    let at = c.loop-turn.invariant in
    let turn : c.loop-turn.script.asked.made < asking_limit = omega (arith, at.made) in
    let took = rw c.in-End.is at c.in_ok-take_part.ensures.gives in
    let means = g.S.Interpreter.means (texts_of c.args.files.now) in
    let piece = c.take_part.new.piece.items in
    let fault = c.in_err-refused-in-End.field-0.0 in
    let rest = g.R.Read.remaining c.take_part.new.script.reader.now in
    let later = g.W.Write.contents c.answer_line-then-not-is_empty.new.out.writer.now in
    let held = g.S.Interpreter.base c.answer_line-then-not-is_empty.new.interpreter in
    let gives = line_of_piece means (g.S.Interpreter.base c.loop-turn.interpreter) held c.deref-then-not-is_empty.result.now piece (g.W.Write.contents c.loop-turn.out.writer.now) later (Err fault) c.deref-then-not-is_empty.ensures.value c.in_err-refused-in-End.ensures.gives in
    let next = last_begins means _ _ _ piece _ _ _ rest _ _ at.progress turn took (λ none. eqb-false _ 0 (sym c.is_empty.ensures ∙ c.if-not-is_empty.true) (omega (arith, ap length none))) in
    rw (p.1, p.2) (record {
      ends = line_fails means _ _ _ piece _ _ _ rest _ _ at.progress fault later held next gives;
      turns = omega (arith, c.in_ok-take_part.ensures.made);
      asks = asked_well means (g.S.Interpreter.base c.loop-turn.interpreter) held piece fault _ later gives c.take_part.new.script.asked c.in_ok-take_part.ensures.failed;
      failed = c.in_err-refused-in-End.ensures.failed;
      flushed = c.in_err-refused-in-End.ensures.flushed ∙ at.flushed;
      same_reader = c.in_ok-take_part.ensures.same ∙ at.same_reader;
      same_writer = c.in_err-refused-in-End.ensures.same ∙ at.same_writer;
    })

pub returns-in-End-clause-ends : goal.returns-in-End-clause-ends
returns-in-End-clause-ends g c =
    let at = c.loop-turn.invariant in
    let turn : c.loop-turn.script.asked.made < asking_limit = omega (arith, at.made) in
    let took = rw c.in-End.is at c.in_ok-take_part.ensures.gives in
    let means = g.S.Interpreter.means (texts_of c.args.files.now) in
    let piece = c.take_part.new.piece.items in
    let rest = g.R.Read.remaining c.take_part.new.script.reader.now in
    rw c.status_from.ensures (elim c.if-not-is_empty.branch [
      | then-not-is_empty+in_ok-refused-in-End w ↦
          let told = w.in_ok-refused-in-End.field-0 in
          let later = g.W.Write.contents w.answer_line-then-not-is_empty.new.out.writer.now in
          let held = g.S.Interpreter.base w.answer_line-then-not-is_empty.new.interpreter in
          let gives = line_of_piece means (g.S.Interpreter.base c.loop-turn.interpreter) held w.deref-then-not-is_empty.result.now piece (g.W.Write.contents c.loop-turn.out.writer.now) later (Ok told) w.deref-then-not-is_empty.ensures.value w.in_ok-refused-in-End.ensures.gives in
          rw (w.out-is, w.refused-is) (ends_with means _ _ _ piece _ _ _ rest _ _ at.progress turn took (λ none. eqb-false _ 0 (sym c.is_empty.ensures ∙ w.if-not-is_empty.true) (omega (arith, ap length none))) later held told gives)
      | else-not-is_empty w ↦ rw (w.out-is, w.refused-is) (ends means _ _ _ piece _ _ _ rest _ _ at.progress turn took (nil_from_length piece (omega (arith, eqb-true _ 0 (sym c.is_empty.ensures ∙ w.if-not-is_empty.false)))))
    ])

pub returns-in-End-clause-turns : goal.returns-in-End-clause-turns
returns-in-End-clause-turns g c = omega (arith, c.loop-turn.invariant.made, c.in_ok-take_part.ensures.made)

pub returns-in-End-clause-asks : goal.returns-in-End-clause-asks
returns-in-End-clause-asks g c = c.in_ok-take_part.ensures.failed

pub returns-in-End-clause-failed : goal.returns-in-End-clause-failed
returns-in-End-clause-failed g c = elim c.if-not-is_empty.branch [
  | then-not-is_empty+in_ok-refused-in-End w ↦ rw w.out-is w.in_ok-refused-in-End.ensures.failed
  | else-not-is_empty w ↦ rw w.out-is c.loop-turn.invariant.unfailed
]

pub returns-in-End-clause-flushed : goal.returns-in-End-clause-flushed
returns-in-End-clause-flushed g c = elim c.if-not-is_empty.branch [
  | then-not-is_empty+in_ok-refused-in-End w ↦ rw w.out-is (w.in_ok-refused-in-End.ensures.flushed ∙ c.loop-turn.invariant.flushed)
  | else-not-is_empty w ↦ rw w.out-is c.loop-turn.invariant.flushed
]

pub returns-in-End-clause-same_reader : goal.returns-in-End-clause-same_reader
returns-in-End-clause-same_reader g c = c.in_ok-take_part.ensures.same ∙ c.loop-turn.invariant.same_reader

pub returns-in-End-clause-same_writer : goal.returns-in-End-clause-same_writer
returns-in-End-clause-same_writer g c = elim c.if-not-is_empty.branch [
  | then-not-is_empty+in_ok-refused-in-End w ↦ rw w.out-is (w.in_ok-refused-in-End.ensures.same ∙ c.loop-turn.invariant.same_writer)
  | else-not-is_empty w ↦ rw w.out-is c.loop-turn.invariant.same_writer
]

pub returns : goal.returns
returns g c =
    let at = c.loop-turn.invariant in
    let made : c.loop-turn.script.asked.made ≡ asking_limit = omega (arith, at.made) in
    record {
      ends = gives_up _ _ _ _ _ _ _ _ _ _ at.progress (omega arith) (Keeps-refl _);
      turns = omega arith;
      asks = inr (at.well, made);
      failed = at.unfailed;
      flushed = at.flushed;
      same_reader = at.same_reader;
      same_writer = at.same_writer;
    }

pub loop-turn-preserved : goal.loop-turn-preserved
loop-turn-preserved g c =
    let at = c.loop-turn.invariant in
    let means = g.S.Interpreter.means (texts_of c.args.files.now) in
    let piece = c.take_part.new.piece.items in
    let rest = g.R.Read.remaining c.take_part.new.script.reader.now in
    elim c.match-branch-2.branch [
      | in-Part w ↦
          let took = rw w.in-Part.is at c.in_ok-take_part.ensures.gives in
          record {
            progress = rw (w.out-is, w.interpreter-is, w.piece-is, w.refused-is) (reads_part means _ _ rest _ _ _ _ _ piece _ _ c.in_ok-take_part.ensures.made at.progress took);
            made = omega (arith, at.made, c.in_ok-take_part.ensures.made);
            well = c.in_ok-take_part.ensures.failed;
            unfailed = rw w.out-is at.unfailed;
            flushed = rw w.out-is at.flushed;
            same_reader = c.in_ok-take_part.ensures.same ∙ at.same_reader;
            same_writer = rw w.out-is at.same_writer;
          }
      | in-Line+in_ok-refused-in-Line w ↦
          let took = rw w.in-Line.is at c.in_ok-take_part.ensures.gives in
          let told = w.in_ok-refused-in-Line.field-0 in
          let later = g.W.Write.contents w.answer_line.new.out.writer.now in
          let held = g.S.Interpreter.base w.answer_line.new.interpreter in
          let gives = line_of_piece means (g.S.Interpreter.base c.loop-turn.interpreter) held w.deref.result.now piece (g.W.Write.contents c.loop-turn.out.writer.now) later (Ok told) w.deref.ensures.value w.in_ok-refused-in-Line.ensures.gives in
          record {
            progress = rw (w.out-is, w.interpreter-is, w.piece-is, w.refused-is, w.clear.ensures.items) (reads_line means _ _ rest _ _ _ _ _ piece _ _ c.in_ok-take_part.ensures.made at.progress took later held told gives);
            made = omega (arith, at.made, c.in_ok-take_part.ensures.made);
            well = c.in_ok-take_part.ensures.failed;
            unfailed = rw w.out-is w.in_ok-refused-in-Line.ensures.failed;
            flushed = rw w.out-is (w.in_ok-refused-in-Line.ensures.flushed ∙ at.flushed);
            same_reader = c.in_ok-take_part.ensures.same ∙ at.same_reader;
            same_writer = rw w.out-is (w.in_ok-refused-in-Line.ensures.same ∙ at.same_writer);
          }
    ]
