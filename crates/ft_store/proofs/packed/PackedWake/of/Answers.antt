use Rattle.std.proofs.Common.{rules}
use Rattle.ft_store.proofs.packed.PackedWake.of.Goals as goal

pub returns-clause-value : goal.returns-clause-value
returns-clause-value c = search rules
