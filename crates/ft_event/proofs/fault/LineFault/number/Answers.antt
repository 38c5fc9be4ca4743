use Rattle.std.proofs.Common.{rules}
use Rattle.ft_event.proofs.fault.LineFault.number.Goals as goal

pub returns-in-BadCpu : goal.returns-in-BadCpu
returns-in-BadCpu c = search rules
