use Rattle.std.proofs.Common.{ℕ, ap, ◌∙◌}
use Rattle.std.specs.List.{list_any}
use Rattle.ft_hist.specs.Hist.{Hist}
use Rattle.ft_hist.specs.Hit.{same_name}
use Rattle.ft_replay.specs.Named.{is_on}
use Rattle.ft_replay.proofs.names.is_on.Goals as goal

pub loop-trigger-init : goal.loop-trigger-init
unfolding is_on
loop-trigger-init c = ap (list_any (λ (attached : ℕ × Hist). same_name attached.1.event c.args.name)) (c.into_iter-trigger-iterator.ensures.into_iter_gives ∙ c.iter-trigger-items.ensures.rest)
