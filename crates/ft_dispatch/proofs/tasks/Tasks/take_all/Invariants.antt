use Rattle.std.proofs.Common.{take}
use Rattle.ft_dispatch.specs.Telling.{entries_of, TakesAll, ShowsAll}
use Rattle.ft_dispatch.proofs.tasks.Tasks.take_all.Given as goal

abbrev pub invariant-loop-one : goal.invariant-loop-one
invariant-loop-one l = TakesAll (entries_of (take l.one-index l.acts)) l.fn.self l.fn.out.items l.self l.out.items
    × ShowsAll (entries_of (take l.one-index l.acts)) l.fn.self l.fn.out.items l.fn.shown l.shown
