use Rattle.std.proofs.Common.{◌≡◌, ◌+◌}
use Rattle.ft_hits.proofs.run.count_puts.Given as goal

abbrev pub invariant-loop : goal.invariant-loop
invariant-loop l = record { puts : l.work.puts ≡ l.fn.work.puts + l.index; evals : l.work.evals ≡ l.fn.work.evals }
