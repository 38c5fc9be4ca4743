use Rattle.ft_script.proofs.Asking.{asked_written}
use Rattle.ft_script.proofs.laws.written_commands.Goals as goal

pub returns : goal.returns
returns c = asked_written
