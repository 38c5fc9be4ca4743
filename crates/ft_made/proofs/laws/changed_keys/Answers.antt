use Rattle.ft_made.proofs.MadeTables.{keys_have, updated_but}
use Rattle.ft_made.proofs.laws.changed_keys.Goals as goal

pub returns : goal.returns
returns c = record { tables = updated_but; keys = keys_have }
