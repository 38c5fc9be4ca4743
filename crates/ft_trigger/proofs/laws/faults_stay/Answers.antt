use Rattle.ft_trigger.proofs.Standing.{parts_stay, parts_first, parts_just, parts_early}
use Rattle.ft_trigger.proofs.laws.faults_stay.Goals as goal

pub returns : goal.returns
returns c = record { stays = parts_stay; first = parts_first; just = parts_just; early = parts_early }
