use Rattle.ft_event.proofs.Unmade.{unmade}
use Rattle.ft_event.proofs.laws.no_made_event.Goals as goal

pub returns : goal.returns
returns c = unmade
