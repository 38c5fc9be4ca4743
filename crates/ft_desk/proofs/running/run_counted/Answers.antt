use Rattle.std.proofs.Common.{map}
use Rattle.ft_desk.proofs.Endings.{flush_ends, flush_calls}
use Rattle.ft_desk.proofs.Flushed.{flush_asks}
use Rattle.ft_desk.proofs.running.run_counted.Goals as goal

pub returns-clause-ends : goal.returns-clause-ends
returns-clause-ends g c =
    flush_ends (g.S.Interpreter.means (map (λ f. f.items) c.args.files.now)) _ _ _ _ _ _ _ _ c.answer_script-answer.ensures.ends c.flush_after.ensures.kept c.flush_after.ensures.answer

pub returns-clause-asks : goal.returns-clause-asks
returns-clause-asks g c = flush_asks _ _ _ _ c.answer_script-answer.ensures.asks c.flush_after.ensures.answer

pub returns-clause-calls : goal.returns-clause-calls
returns-clause-calls g c =
    rw c.flush_after.ensures.written (flush_calls (g.S.Interpreter.means (map (λ f. f.items) c.args.files.now)) _ _ _ _ _ _ _ _ _ c.answer_script-answer.ensures.ends c.flush_after.ensures.kept c.answer_script-answer.ensures.failed c.flush_after.ensures.answer)
