use Rattle.std.proofs.Common.{take}
use Rattle.ft_dispatch.specs.Holding.{TakesOn}
use Rattle.ft_dispatch.proofs.holding.FirstOnes.take_all.Given as goal

abbrev pub invariant-loop-one : goal.invariant-loop-one
invariant-loop-one l = TakesOn (take l.one-index l.told) l.fn.self l.fn.out.items l.self l.out.items
