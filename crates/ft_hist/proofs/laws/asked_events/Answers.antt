use Rattle.ft_hist.proofs.Asked.{asked_is_hit}
use Rattle.ft_hist.proofs.laws.asked_events.Goals as goal

pub returns : goal.returns
returns c = λ hist event sound. asked_is_hit (record { has = c.values_of_fields.ensures.has; kind = c.values_of_fields.ensures.kind }) event hist sound
