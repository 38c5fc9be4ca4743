use Rattle.std.proofs.Common.{rules}
use Rattle.ft_script.specs.Script.{asked_by}
use Rattle.ft_script.proofs.script.read_command.Goals as goal

pub returns-in-Some : goal.returns-in-Some
unfolding asked_by
returns-in-Some c = search rules
