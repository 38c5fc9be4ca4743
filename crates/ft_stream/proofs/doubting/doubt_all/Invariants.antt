use Rattle.std.proofs.Common.{◌≡◌, ◌++◌, take, drop, map}
use Rattle.ft_stream.specs.Doubting.{with_doubt}
use Rattle.ft_stream.proofs.doubting.doubt_all.Given as goal

-- the waits so far are doubted, and the others are as they were
abbrev pub invariant-loop-number : goal.invariant-loop-number
invariant-loop-number l = l.waits ≡ map (with_doubt l.doubts) (take l.number l.fn.waits) ++ drop l.number l.fn.waits
