use Rattle.std.proofs.Common.{rules}
use Rattle.ft_desk.proofs.performing.print_refusal.Goals as goal

pub returns-clause-refused : goal.returns-clause-refused
returns-clause-refused c = search rules
