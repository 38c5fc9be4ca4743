use Rattle.ft_trigger.proofs.Halves.{cut_of}
use Rattle.ft_trigger.proofs.laws.cuts.Goals as goal

pub returns : goal.returns
returns c = cut_of
