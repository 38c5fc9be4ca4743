use Rattle.std.proofs.Common.{take}
use Rattle.ft_dispatch.specs.Telling.{entries_of}
use Rattle.ft_summary.specs.Telling.{TakesAll}
use Rattle.ft_summary.proofs.summary.Summary.take_all.Given as goal

abbrev pub invariant-loop-one : goal.invariant-loop-one
invariant-loop-one l = TakesAll (entries_of (take l.one-index l.acts)) l.fn.self l.self
