use Rattle.ft_filter.proofs.PredLaw.{pred_is}
use Rattle.ft_filter.proofs.laws.predicates_of_texts.Goals as goal

pub returns : goal.returns
returns c = pred_is
