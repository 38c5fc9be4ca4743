use Rattle.ft_dispatch.specs.Showings.{showings}
use Rattle.ft_waits.proofs.Ordering.{orders-nothing}
use Rattle.ft_waits.proofs.events.no_acts.Goals as goal

pub returns : goal.returns
unfolding showings
returns c = orders-nothing _ c.new.ensures.items c.new-2.ensures (record {
  windows = c.in_ok-new.ensures;
  given = c.new-3.ensures.showings;
  firsts = c.new-3.ensures.firsts;
})
