use Rattle.ft_dispatch.proofs.Held.{holds-none}
use Rattle.ft_dispatch.proofs.holding.FirstOnes.new.Goals as goal

pub returns : goal.returns
returns c = holds-none _ c.new.ensures.items c.new-2.ensures.empty
