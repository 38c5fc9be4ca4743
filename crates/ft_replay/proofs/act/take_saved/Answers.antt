use Rattle.ft_pairs.specs.Variables.{variable_same}
use Rattle.ft_replay.proofs.act.take_saved.Goals as goal

pub take-requires : goal.take-requires
take-requires c = variable_same

pub returns-clause-unset : goal.returns-clause-unset
returns-clause-unset c = c.take.ensures
