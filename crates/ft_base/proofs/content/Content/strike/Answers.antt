-- Striking keeps what all edits keep.
use Rattle.ft_base.specs.contracts.content.Content.{the_view}
use Rattle.ft_base.proofs.LaneEdits.{strike-IsReachable}
use Rattle.ft_base.proofs.content.Content.strike.Goals as goal

pub invariant_of-self : goal.invariant_of-self
invariant_of-self c = rw (c.take.ensures.rest) (strike-IsReachable (the_view c.self.inside) c.args.place.cpu c.args.place.line c.self.invariant)
