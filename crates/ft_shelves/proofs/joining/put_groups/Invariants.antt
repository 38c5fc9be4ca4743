use Rattle.std.proofs.Common.{◌≡◌, None}
use Rattle.std.specs.FinMap as map
use Rattle.ft_shelves.specs.Counts.{TestsNone}
use Rattle.ft_shelves.specs.Joining.{hit_in, unread}
use Rattle.ft_shelves.proofs.KeyByKey.{IsPut}
use Rattle.ft_shelves.proofs.joining.put_groups.Given as goal

abbrev pub invariant-loop-key : goal.invariant-loop-key
invariant-loop-key l = record {
  put : IsPut l.key-items (λ key spot. None) (hit_in l.joining.trigger.now l.joining.groups.now unread) l.key-index (λ key spot. map.get l.table.hits (record { spot = spot; key = key }));
  size : l.table.size ≡ l.fn.table.size;
  work : TestsNone l.fn.work l.work;
}
