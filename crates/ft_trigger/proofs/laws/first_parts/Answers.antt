use Rattle.ft_trigger.proofs.Firsts.{first_parts, first_fault}
use Rattle.ft_trigger.proofs.laws.first_parts.Goals as goal

pub returns : goal.returns
returns c = record { parts = first_parts; texts = first_fault }
