use Rattle.std.proofs.Common.{◌≡◌}
use Rattle.std.specs.List.{list_any}
use Rattle.ft_hist.specs.Hit.{same_name}
use Rattle.ft_replay.specs.Named.{is_on}
use Rattle.ft_replay.proofs.names.is_on.Given as goal

-- the triggers that are left tell what all tell
abbrev pub invariant-loop-trigger : goal.invariant-loop-trigger
invariant-loop-trigger l = list_any (λ attached. same_name attached.1.event l.name) l.trigger-iterator ≡ is_on l.triggers l.name
