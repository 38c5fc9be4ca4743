use Rattle.std.proofs.Common.{length}
use Rattle.ft_hist.proofs.matching.+items_match.Given as goal

abbrev pub decreases-items_match : goal.decreases-items_match
decreases-items_match l = length l.a.now
