use Rattle.ft_text.proofs.Spelled.{one_cut}
use Rattle.ft_text.proofs.laws.one_list.Goals as goal

pub returns : goal.returns
returns c = one_cut
