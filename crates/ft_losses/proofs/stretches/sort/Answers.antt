use Rattle.std.proofs.Common.{rules, ◌≡◌}
use Rattle.std.proofs.lemmas.Fn.{always_returns_same}
use Rattle.ft_losses.proofs.stretches.sort.Goals as goal

pub returns-clause-order : goal.returns-clause-order
returns-clause-order c = c.sort_unstable_by_key.ensures.sorted (λ one. one.start) (always_returns_same _ (λ a r. r ≡ a.0.now.start) _ (λ a r q k. search rules))
