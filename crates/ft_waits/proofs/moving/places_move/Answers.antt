use Rattle.ft_waits.proofs.Moves.{place-moved, acts-moved, place-by-counts}
use Rattle.ft_waits.proofs.moving.places_move.Goals as goal

pub returns-clause-places : goal.returns-clause-places
returns-clause-places c = place-moved

pub returns-clause-acts : goal.returns-clause-acts
returns-clause-acts c = acts-moved

pub returns-clause-counts : goal.returns-clause-counts
returns-clause-counts c = place-by-counts
