use Rattle.ft_trigger.proofs.Firsts.{cut_at, same_cut}
use Rattle.ft_trigger.proofs.laws.one_cut.Goals as goal

pub returns : goal.returns
returns c = record { some = cut_at; one = same_cut }
