use Rattle.std.proofs.Common.{rules}
use Rattle.ft_desk.proofs.program.exit_status.Goals as goal

pub returns-in-Ok-SomeRefused : goal.returns-in-Ok-SomeRefused
returns-in-Ok-SomeRefused g c = search rules
