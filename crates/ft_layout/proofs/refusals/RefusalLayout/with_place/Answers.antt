use Rattle.std.proofs.Common.{rules}
use Rattle.ft_layout.proofs.refusals.RefusalLayout.with_place.Goals as goal

pub returns-in-Some : goal.returns-in-Some
returns-in-Some c = search rules
