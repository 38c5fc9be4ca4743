use Rattle.std.proofs.Common.{rules, ◌≡◌}
use Rattle.std.proofs.lemmas.Fn.{always_returns_same}
use Rattle.ft_replay.proofs.Placing.{on_ok}
use Rattle.ft_replay.proofs.merge.sort_by_place.Goals as goal

pub returns-clause-sorted : goal.returns-clause-sorted
returns-clause-sorted c =
    on_ok c.sort_by_key.result _ _ (λ sorted. sorted (λ entry. entry.0) (always_returns_same _ (λ a r. r ≡ a.0.now.0) _ (λ a r q k. search rules))) c.sort_by_key.ensures.sorted
