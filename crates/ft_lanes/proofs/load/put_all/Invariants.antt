use Rattle.std.proofs.Common.{◌≡◌, length}
use Rattle.std.specs.Ordering.{nat_cmp}
use Rattle.std.specs.Vec.Iter.{into_iter_items, into_iter_len}
use Rattle.ft_maps.specs.Seen.{seen}
use Rattle.ft_lanes.proofs.Merges.{Merging}
use Rattle.ft_lanes.proofs.load.put_all.Given as goal

-- with the slots of the CPUs that are still to come it is all
abbrev pub invariant-loop-slots : goal.invariant-loop-slots
invariant-loop-slots l = record {
  all : Merging (seen nat_cmp l.initial.lanes) l.fn.by_cpu.items (seen nat_cmp l.lanes) l.cpu (into_iter_items l.slots-iterator);
  long : length (into_iter_items l.slots-iterator) ≡ into_iter_len l.slots-iterator;
}
