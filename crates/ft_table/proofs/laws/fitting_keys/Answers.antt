use Rattle.ft_table.proofs.Fits.{none_fits, one_more_fits, one_less_fits}
use Rattle.ft_table.proofs.laws.fitting_keys.Goals as goal

pub returns-clause-none : goal.returns-clause-none
returns-clause-none c = none_fits

pub returns-clause-comes : goal.returns-clause-comes
returns-clause-comes c = one_more_fits

pub returns-clause-goes : goal.returns-clause-goes
returns-clause-goes c = one_less_fits
