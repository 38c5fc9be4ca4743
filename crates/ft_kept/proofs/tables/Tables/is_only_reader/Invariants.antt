use Rattle.ft_kept.proofs.Bare.{OthersAmong}
use Rattle.ft_kept.proofs.tables.Tables.is_only_reader.Given as goal

-- another reader is among the shelves that are left
abbrev pub invariant-loop-other : goal.invariant-loop-other
invariant-loop-other l = OthersAmong l.id l.saver l.self l.other-iterator
