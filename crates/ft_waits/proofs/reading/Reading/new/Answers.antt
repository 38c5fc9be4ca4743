use Rattle.std.proofs.Common.{refl, []}
use Rattle.ft_waits.specs.Reading.{events_of, first_bad, lines_read, refused}
use Rattle.ft_waits.proofs.reading.Reading.new.Goals as goal

pub returns-clause-none : goal.returns-clause-none
unfolding events_of first_bad lines_read refused
returns-clause-none c = record { unrefused = refl; read = refl; notes = []; noted = refl; losses = c.in_ok-new.ensures; misses = c.in_ok-new-2.ensures.misses; state = c.in_ok-new-2.ensures.follows }
