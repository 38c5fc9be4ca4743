use Rattle.std.proofs.Common.{◌≡◌}
use Rattle.std.specs.Ordering.{nat_cmp}
use Rattle.std.specs.FinMap as finite
use Rattle.ft_maps.specs.Seen.{seen}
use Rattle.ft_watch.proofs.Taken.{taken}
use Rattle.ft_watch.proofs.known_tables.look_at_all.Given as goal

abbrev pub invariant-loop-id : goal.invariant-loop-id
invariant-loop-id g l = record {
  base : l.desk.base ≡ l.initial.desk.base;
  taken : taken l.initial.desk.base (seen nat_cmp l.now) l.id-iterator ≡ taken l.initial.desk.base finite.empty (finite.entries (seen nat_cmp l.fn.old));
}
