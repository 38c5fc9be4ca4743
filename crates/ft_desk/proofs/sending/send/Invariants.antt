use Rattle.std.proofs.Common.{◌≡◌, List, ℕ, ◌++◌, length}
use Rattle.std.specs.Io.KnownBytes.{Appends}
use Rattle.ft_desk.proofs.sending.send.Given as goal

abbrev pub invariant-loop-rest : goal.invariant-loop-rest
invariant-loop-rest g l = record {
  sent : List ℕ;
  written : Appends (g.W.Write.contents l.initial.out.writer.now) (g.W.Write.contents l.out.writer.now) sent;
  whole : l.text ≡ sent ++ l.rest;
  well : l.out.written.failed ≡ 0;
  flushed : l.out.flushed ≡ l.initial.out.flushed;
  same : l.out.writer.ghost_name ≡ l.initial.out.writer.ghost_name;
}

abbrev pub decreases-loop-rest : goal.decreases-loop-rest
decreases-loop-rest g l = length l.rest
