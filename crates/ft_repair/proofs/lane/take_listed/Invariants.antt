use Rattle.std.proofs.Common.{◌≡◌, ◌+◌, ◌≤◌, Some, drop}
use Rattle.std.specs.List.{AllByRecursion}
use Rattle.std.specs.FinMap as map
use Rattle.ft_repair.proofs.EventLists.{AreGoing, count_events}
use Rattle.ft_replay.specs.Costs.{count_on_lane}
use Rattle.ft_base.specs.PlainHits.{IsPlainLane}
use Rattle.ft_hist.specs.Steps.{StepsGrow}
use Rattle.ft_kept.specs.Changes.{ReadingsTold}
use Rattle.ft_kept.specs.Shelves.{FormsStay}
use Rattle.ft_kept.specs.Views.{triggers_of}
use Rattle.ft_lanes.specs.Held.{Lane}
use Rattle.ft_maps.specs.Mapped.{entries_by}
use Rattle.ft_store.specs.Stored.{held}
use Rattle.ft_repair.proofs.lane.take_listed.Given as goal

-- the tables are kept of all events except those before the ones that are left, for which the tests were; all are the lane's own; the tables' forms stayed, the readings that changed were told, and none if the lane is plain; no count of steps fell
abbrev pub invariant-loop-pos : goal.invariant-loop-pos
invariant-loop-pos l = record {
  going : AreGoing (triggers_of l.scene) l.scene.lanes.now l.cpu (entries_by held (drop l.pos-index l.events)) l.tables;
  own : AllByRecursion (λ e. e.0.cpu ≡ l.cpu) (entries_by held (drop l.pos-index l.events));
  evals : (lane : Lane) → map.get l.content.lanes l.cpu ≡ Some lane → l.work.evals + count_events (triggers_of l.scene) (entries_by held (drop l.pos-index l.events)) ≤ l.fn.work.evals + count_on_lane l.content.triggers lane;
  forms : FormsStay l.fn.tables l.tables;
  reread : ReadingsTold l.fn.changes.readings l.changes.readings l.fn.tables l.tables;
  quiet : IsPlainLane l.content.triggers l.content.lanes l.cpu → l.changes.readings ≡ l.fn.changes.readings;
  grow : StepsGrow l.fn.work l.work;
}
