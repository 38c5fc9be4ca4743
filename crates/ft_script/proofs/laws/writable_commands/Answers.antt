use Rattle.ft_script.proofs.Writable.{asked_writable}
use Rattle.ft_script.proofs.laws.writable_commands.Goals as goal

pub returns : goal.returns
returns c = asked_writable
