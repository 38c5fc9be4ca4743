use Rattle.std.proofs.Common.{◌≡◌, ◌++◌, length}
use Rattle.std.specs.Vec.Iter.{into_iter_items, into_iter_len}
use Rattle.ft_maps.specs.Mapped.{entries_by}
use Rattle.ft_store.specs.Stored.{held}
use Rattle.ft_replay.specs.inner.Rests.{entries_left, listed_and_left, with_names}
use Rattle.ft_replay.proofs.merge.push_rests.Given as goal

-- with the rests that are still to come it is all
abbrev pub invariant-loop-rest : goal.invariant-loop-rest
invariant-loop-rest l = record {
  all : entries_by held l.events.items ++ with_names l.names (entries_left (into_iter_items l.rest-iterator)) ≡ listed_and_left l.names l.fn.events.items (entries_left l.fn.rests.items);
  long : length (into_iter_items l.rest-iterator) ≡ into_iter_len l.rest-iterator;
}
