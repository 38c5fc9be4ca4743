use Rattle.std.proofs.Common.{rules}
use Rattle.ft_layout.proofs.events.EventLayout.with_turn.Goals as goal

pub returns : goal.returns
returns c = search rules
