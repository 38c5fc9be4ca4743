use Rattle.std.proofs.Common.{◌≡◌, length, reverse}
use Rattle.ft_text.specs.Tokens.{skip}
use Rattle.ft_trigger.proofs.tail.without_end.Given as goal

-- what is left has the same beginning
abbrev pub invariant-loop-last : goal.invariant-loop-last
invariant-loop-last l = skip (reverse l.rest) ≡ skip (reverse l.fn.text)

abbrev pub decreases-loop-last : goal.decreases-loop-last
decreases-loop-last l = length l.rest
