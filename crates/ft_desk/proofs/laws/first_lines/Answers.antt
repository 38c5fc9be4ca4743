use Rattle.ft_desk.proofs.Written.{first_lines_first}
use Rattle.ft_desk.proofs.laws.first_lines.Goals as goal

pub returns : goal.returns
returns c = first_lines_first
