use Rattle.std.specs.Prelude.{option_and_then}
use Rattle.ft_hist.specs.Made.{made_of}
use Rattle.ft_replay.specs.Found.{saving_found}
use Rattle.ft_made.specs.MadeEvents.{made_at}
use Rattle.ft_made.proofs.Same.{made_found}
use Rattle.ft_made.proofs.laws.same_made.Goals as goal

pub returns-clause-local : goal.returns-clause-local
unfolding made_at saving_found
returns-clause-local c = λ triggers others events more at same finds i.
    option_and_then (λ event. option_and_then (λ hist. option_and_then (made_of hist at.pos event)
    (option_and_then (λ found. found.saved) (c.same_elsewhere.ensures.hits triggers others events more at same finds i))) (same.trigger i)) (same.event i)

pub returns-clause-kept : goal.returns-clause-kept
returns-clause-kept c = made_found
