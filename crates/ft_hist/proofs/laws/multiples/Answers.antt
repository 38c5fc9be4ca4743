use Rattle.std.proofs.Common.{◌/◌, refl}
use Rattle.ft_hist.proofs.laws.multiples.Goals as goal

pub returns-clause-multiple : goal.returns-clause-multiple
returns-clause-multiple c = λ size value. (value / size, refl)
