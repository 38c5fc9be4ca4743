use Rattle.std.proofs.Common.{refl}
use Rattle.ft_waits.specs.Reading.{acts_of}
use Rattle.ft_waits.proofs.laws.nothing_left_out.Goals as goal

pub returns-clause-none : goal.returns-clause-none
unfolding acts_of
returns-clause-none c = refl

pub returns-clause-more : goal.returns-clause-more
unfolding acts_of
returns-clause-more c = λ event before. refl
