use Rattle.std.proofs.Common.{None}
use Rattle.ft_pairs.specs.ByKey.{ops_of}
use Rattle.ft_shelves.specs.Counts.{TestsNone}
use Rattle.ft_shelves.specs.Joining.{save_in}
use Rattle.ft_shelves.proofs.KeyByKey.{IsPut}
use Rattle.ft_shelves.proofs.joining.save_groups.Given as goal

abbrev pub invariant-loop-key : goal.invariant-loop-key
invariant-loop-key l = record {
  put : IsPut l.key-items (λ key at. None) (save_in l.joining.id l.joining.groups.now l.table) l.key-index (ops_of l.pairs);
  work : TestsNone l.fn.work l.work;
}
