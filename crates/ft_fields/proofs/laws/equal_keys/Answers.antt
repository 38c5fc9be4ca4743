use Rattle.ft_fields.specs.Ties.{part_same, key_same}
use Rattle.ft_fields.proofs.laws.equal_keys.Goals as goal

pub returns-clause-keys : goal.returns-clause-keys
returns-clause-keys c = key_same

pub returns-clause-parts : goal.returns-clause-parts
returns-clause-parts c = part_same
