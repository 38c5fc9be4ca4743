use Rattle.std.proofs.Common.{◌≡◌, drop, fold}
use Rattle.std.specs.FinMap as map
use Rattle.ft_pairs.specs.Runs.{SomeReads}
use Rattle.ft_pairs.specs.inner.Met.{with_read}
use Rattle.ft_pairs.proofs.sequence.Sequence.put_each.Given as goal

-- the reads that are left lead where all lead, and what is put so far are some of them
abbrev pub invariant-loop-at : goal.invariant-loop-at
invariant-loop-at l =
    (fold with_read l.self (drop l.at-index l.reads) ≡ fold with_read l.initial.self l.reads)
    × SomeReads l.reads (map.get l.initial.self) (map.get l.self)
