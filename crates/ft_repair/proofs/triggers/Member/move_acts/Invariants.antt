use Rattle.std.proofs.Common.{◌+◌, ◌≤◌, drop, length}
use Rattle.ft_repair.proofs.EventLists.{IsMoving}
use Rattle.ft_hist.specs.Steps.{StepsGrow}
use Rattle.ft_maps.specs.Mapped.{entries_by}
use Rattle.ft_store.specs.Stored.{held}
use Rattle.ft_repair.proofs.triggers.Member.move_acts.Given as goal

-- the tables are kept with the events before those that are left, or without them; each took one test at most, and no count fell
abbrev pub invariant-loop-pos : goal.invariant-loop-pos
invariant-loop-pos l = record {
  moving : IsMoving l.self l.sign l.fn.tables (entries_by held (drop l.pos-index l.events)) l.tables;
  evals : l.work.evals + length (entries_by held (drop l.pos-index l.events)) ≤ l.fn.work.evals + length (entries_by held l.events);
  grow : StepsGrow l.fn.work l.work;
}
