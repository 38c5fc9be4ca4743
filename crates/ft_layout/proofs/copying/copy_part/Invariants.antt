use Rattle.std.proofs.Common.{◌≡◌, ◌++◌, take, drop, map}
use Rattle.ft_layout.proofs.copying.copy_part.Given as goal

-- what is copied so far, and after it what the room held
abbrev pub invariant-loop-number : goal.invariant-loop-number
invariant-loop-number g l = l.to ≡ map (g.W.Shows.shown l.way) (take l.number l.rest) ++ drop l.number l.fn.to
