use Rattle.ft_hist.proofs.PartLemmas.{hit_fits, fit_long}
use Rattle.ft_hist.proofs.laws.fitting_parts.Goals as goal

pub returns-clause-fits : goal.returns-clause-fits
returns-clause-fits c = hit_fits c.values_of_fields.ensures.kind

pub returns-clause-as_many : goal.returns-clause-as_many
returns-clause-as_many c = fit_long
