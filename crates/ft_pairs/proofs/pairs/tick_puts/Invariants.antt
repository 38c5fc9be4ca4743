use Rattle.std.proofs.Common.{◌≡◌, ◌+◌}
use Rattle.ft_pairs.proofs.pairs.tick_puts.Given as goal

abbrev pub invariant-loop : goal.invariant-loop
invariant-loop l = (l.work.puts ≡ l.initial.work.puts + l.counter) × (l.work.evals ≡ l.initial.work.evals)
