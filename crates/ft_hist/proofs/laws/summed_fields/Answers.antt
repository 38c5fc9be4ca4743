use Rattle.ft_hist.proofs.Summed.{field_summed}
use Rattle.ft_hist.proofs.laws.summed_fields.Goals as goal

pub returns : goal.returns
returns c = field_summed (record { has = c.values_of_fields.ensures.has; kind = c.values_of_fields.ensures.kind })
