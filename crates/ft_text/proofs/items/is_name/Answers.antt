use Rattle.std.proofs.Common.{rules}
use Rattle.ft_text.proofs.items.is_name.Goals as goal

pub returns-in-Some : goal.returns-in-Some
returns-in-Some c = search rules
