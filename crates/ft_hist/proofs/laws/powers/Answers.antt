use Rattle.ft_hist.proofs.PowerLemmas.{log2_of_reached, log2_of_least}
use Rattle.ft_hist.proofs.laws.powers.Goals as goal

pub returns-clause-reached : goal.returns-clause-reached
returns-clause-reached c = log2_of_reached

pub returns-clause-least : goal.returns-clause-least
returns-clause-least c = log2_of_least
