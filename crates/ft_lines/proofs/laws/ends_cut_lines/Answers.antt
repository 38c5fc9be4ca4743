use Rattle.ft_lines.proofs.Cutting.{ends-cut}
use Rattle.ft_lines.proofs.laws.ends_cut_lines.Goals as goal

pub returns : goal.returns
returns c = ends-cut
