use Rattle.ft_dispatch.specs.Showings.{showings, first_wakings}
use Rattle.ft_dispatch.proofs.showing.Shown.new.Goals as goal

pub returns : goal.returns
unfolding showings first_wakings
returns c = record { showings = c.new.ensures.items; firsts = c.new-2.ensures.items }
