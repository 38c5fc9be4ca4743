use Rattle.std.proofs.Common.{◌≡◌, ◌++◌}
use Rattle.ft_maps.specs.Mapped.{entries_by}
use Rattle.ft_store.specs.Stored.{held}
use Rattle.ft_repair.specs.inner.Going.{lane_events}
use Rattle.ft_repair.proofs.EventLists.{placed}
use Rattle.ft_repair.proofs.lane.events_of.Given as goal

-- with those of the lines that are left they are all
abbrev pub invariant-loop-line : goal.invariant-loop-line
invariant-loop-line l = entries_by held l.events.items ++ placed l.cpu l.line-iterator ≡ lane_events l.lanes l.cpu
