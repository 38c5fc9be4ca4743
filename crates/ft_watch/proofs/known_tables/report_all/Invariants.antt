use Rattle.std.proofs.Common.{◌≡◌}
use Rattle.std.specs.List.{AllByRecursion}
use Rattle.std.specs.Ordering.{nat_cmp}
use Rattle.std.specs.FinMap as finite
use Rattle.ft_maps.specs.Seen.{seen}
use Rattle.ft_watch.specs.inner.Told.{NamesRows}
use Rattle.ft_watch.proofs.Taken.{taken, told_tables}
use Rattle.ft_watch.proofs.known_tables.report_all.Given as goal

abbrev pub invariant-loop-id : goal.invariant-loop-id
invariant-loop-id g l = record {
  base : l.desk.base ≡ l.initial.desk.base;
  taken : taken l.initial.desk.base (seen nat_cmp l.now) l.id-iterator ≡ taken l.initial.desk.base finite.empty (finite.entries (seen nat_cmp l.fn.old));
  told : told_tables l.initial.desk.base l.id-iterator l.told ≡ told_tables l.initial.desk.base (finite.entries (seen nat_cmp l.fn.old)) l.fn.changes;
  named : AllByRecursion (NamesRows l.edited l.initial.desk.base) l.id-iterator;
}
