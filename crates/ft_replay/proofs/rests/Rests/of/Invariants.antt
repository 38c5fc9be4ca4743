use Rattle.std.proofs.Common.{◌≡◌, ◌++◌, ℕ, Bool}
use Rattle.std.specs.Prelude.{not}
use Rattle.std.specs.List.{flat_map}
use Rattle.std.specs.FinMap as map
use Rattle.std.specs.FinMap.Entries.{where_key}
use Rattle.std.specs.Ordering.{nat_cmp}
use Rattle.ft_replay.specs.Chosen.{is_among}
use Rattle.ft_replay.specs.Merged.{placed}
use Rattle.ft_replay.specs.inner.Rests.{entries_left}
use Rattle.ft_replay.proofs.rests.Rests.of.Given as goal

-- with the lanes that are still to come it is all
abbrev pub invariant-loop-cpu : goal.invariant-loop-cpu
invariant-loop-cpu l =
    let other : ℕ → Bool = λ cpu. not (is_among l.but cpu) in
    entries_left l.rests.rests.items ++ flat_map placed (where_key nat_cmp other l.cpu-iterator) ≡ flat_map placed (where_key nat_cmp other (map.entries l.lanes))
