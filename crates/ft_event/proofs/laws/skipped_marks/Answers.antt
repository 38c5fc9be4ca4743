use Rattle.ft_event.proofs.Marks.{mark_skipped}
use Rattle.ft_event.proofs.laws.skipped_marks.Goals as goal

pub returns : goal.returns
returns c = mark_skipped
