use Rattle.ft_text.proofs.Deciding.{matches-Decides}
use Rattle.ft_text.proofs.laws.what_matches.Goals as goal

pub returns : goal.returns
returns c = matches-Decides
