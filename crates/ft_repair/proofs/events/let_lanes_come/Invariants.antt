use Rattle.std.proofs.Common.{◌+◌, ◌≤◌, drop}
use Rattle.ft_repair.specs.SomeLanes.{count_coming}
use Rattle.ft_repair.proofs.EventLists.{AreComing, count_events}
use Rattle.ft_hist.specs.Steps.{StepsGrow}
use Rattle.ft_kept.specs.Changes.{ReadingsTold}
use Rattle.ft_kept.specs.Shelves.{FormsStay}
use Rattle.ft_kept.specs.Views.{triggers_of}
use Rattle.ft_maps.specs.Mapped.{entries_by}
use Rattle.ft_store.specs.Stored.{held}
use Rattle.std.specs.Option.{IfSome}
use Rattle.ft_repair.proofs.events.let_lanes_come.Given as goal

-- the tables are kept of what they had and of the events before those that are left, for which the tests were; their forms stayed, and the readings that changed were told; no count of steps fell
abbrev pub invariant-loop-pos : goal.invariant-loop-pos
invariant-loop-pos l = record {
  coming : AreComing l.scene.lanes.now (triggers_of l.scene) l.before (entries_by held (drop l.pos-index l.pos-items)) l.tables;
  evals : l.work.evals + count_events (triggers_of l.scene) (entries_by held (drop l.pos-index l.pos-items)) ≤ l.fn.work.evals + count_coming l.before l.content;
  forms : IfSome l.fn.kept (λ before. FormsStay before l.tables);
  reread : IfSome l.fn.kept (λ before. ReadingsTold l.fn.changes.readings l.changes.readings before l.tables);
  grow : StepsGrow l.fn.work l.work;
}
