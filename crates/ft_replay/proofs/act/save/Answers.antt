use Rattle.ft_pairs.specs.Variables.{variable_same}
use Rattle.ft_replay.proofs.act.save.Goals as goal

pub put-requires : goal.put-requires
put-requires c = variable_same
