use Rattle.std.specs.Prelude.{◌≡◌, map}
use Rattle.ft_desk.proofs.Progress.{Progress}
use Rattle.ft_desk.proofs.running.answer_script.Given as goal

abbrev pub invariant-loop-turn : goal.invariant-loop-turn
invariant-loop-turn g l = record {
  progress :
      Progress (g.S.Interpreter.means (map (λ f. f.items) l.files)) (g.R.Read.remaining l.initial.script.reader.now) (g.R.Read.remaining l.script.reader.now)
      (g.W.Write.contents l.initial.out.writer.now) (g.W.Write.contents l.out.writer.now) (g.S.Interpreter.base l.interpreter) l.refused l.piece.items l.script.asked.made;
  made : l.script.asked.made ≡ l._turn;
  well : l.script.asked.failed ≡ 0;
  unfailed : l.out.written.failed ≡ 0;
  flushed : l.out.flushed ≡ l.initial.out.flushed;
  same_reader : l.script.reader.ghost_name ≡ l.initial.script.reader.ghost_name;
  same_writer : l.out.writer.ghost_name ≡ l.initial.out.writer.ghost_name;
}
