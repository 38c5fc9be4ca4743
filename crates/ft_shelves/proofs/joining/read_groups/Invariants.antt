use Rattle.std.proofs.Common.{◌≡◌, None}
use Rattle.std.specs.FinMap as map
use Rattle.ft_groups.specs.Grouped.{run_of}
use Rattle.ft_pairs.specs.ByKey.{ops_of}
use Rattle.ft_pairs.specs.Runs.{with_reads}
use Rattle.ft_shelves.specs.Counts.{TestsNone}
use Rattle.ft_shelves.specs.Joining.{AreGroupsOf, acts_with, hit_in, read_from}
use Rattle.ft_shelves.specs.inner.Joining.{reads_of_run}
use Rattle.ft_shelves.proofs.Findable.{sources_in}
use Rattle.ft_shelves.proofs.KeyByKey.{IsPut}
use Rattle.ft_shelves.proofs.Listed.{AreGathered}
use Rattle.ft_shelves.proofs.joining.read_groups.Given as goal

abbrev pub invariant-loop-key : goal.invariant-loop-key
invariant-loop-key l = record {
  ops : IsPut l.key-items (ops_of l.fn.pairs) (λ key. with_reads (reads_of_run l.joining.id (run_of l.joining.groups.now key)) (ops_of l.fn.pairs key)) l.key-index (ops_of l.pairs);
  hits : IsPut l.key-items (λ key spot. None) (hit_in l.joining.trigger.now l.joining.groups.now (read_from (sources_in l.joining.id l.joining.groups.now l.fn.pairs))) l.key-index
      (λ key spot. map.get l.table.hits (record { spot = spot; key = key }));
  gathered : (of : AreGroupsOf l.joining.trigger.now l.joining.groups.now)
      → AreGathered (acts_with l.joining.trigger.now of.events) (read_from (sources_in l.joining.id l.joining.groups.now l.fn.pairs)) l.key-items l.key-index l.readings.items;
  size : l.table.size ≡ l.fn.table.size;
  work : TestsNone l.fn.work l.work;
}
