use Rattle.std.proofs.Common.{rules, ◌≡◌}
use Rattle.std.proofs.lemmas.Fn.{always_returns_same}
use Rattle.ft_waits.proofs.steps.sort.Goals as goal

pub returns-clause-sorted : goal.returns-clause-sorted
returns-clause-sorted c = c.sort_unstable_by_key.ensures.sorted (λ one. one.place) (always_returns_same _ (λ a r. r ≡ a.0.now.place) _ (λ a r q k. search rules))
