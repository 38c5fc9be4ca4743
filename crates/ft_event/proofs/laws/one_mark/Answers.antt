use Rattle.ft_event.proofs.Marks.{same_mark}
use Rattle.ft_event.proofs.laws.one_mark.Goals as goal

pub returns : goal.returns
returns c = same_mark
