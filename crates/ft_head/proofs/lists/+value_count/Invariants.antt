use Rattle.std.proofs.Common.{length}
use Rattle.ft_head.proofs.lists.+value_count.Given as goal

abbrev pub decreases-value_count : goal.decreases-value_count
decreases-value_count l = length l.words.now
