use Rattle.std.proofs.Common.{◌≡◌, ◌+◌, ◌≤◌, Some}
use Rattle.std.specs.FinMap as map
use Rattle.ft_repair.proofs.EventLists.{IsGoing, count_events}
use Rattle.ft_replay.specs.Costs.{count_on_lane}
use Rattle.ft_base.specs.PlainHits.{IsPlainLane}
use Rattle.ft_hist.specs.Steps.{StepsGrow}
use Rattle.ft_kept.specs.Changes.{ReadingsTold}
use Rattle.ft_kept.specs.Shelves.{FormsStay}
use Rattle.ft_kept.specs.Views.{triggers_of}
use Rattle.ft_lanes.specs.Held.{Lane}
use Rattle.ft_repair.proofs.lane.take_lines.Given as goal

-- the tables are kept of all events except those of the lines before, for which the tests were; their forms stayed, the readings that changed were told, and none if the lines are plain; no count of steps fell
abbrev pub invariant-loop-line : goal.invariant-loop-line
invariant-loop-line l = record {
  going : IsGoing (triggers_of l.scene) l.scene.lanes.now l.cpu l.line-iterator l.tables;
  evals : (lane : Lane) → map.get l.content.lanes l.cpu ≡ Some lane → l.work.evals + count_events (triggers_of l.scene) l.line-iterator ≤ l.fn.work.evals + count_on_lane l.content.triggers lane;
  forms : FormsStay l.fn.tables l.tables;
  reread : ReadingsTold l.fn.changes.readings l.changes.readings l.fn.tables l.tables;
  quiet : IsPlainLane l.content.triggers l.content.lanes l.cpu → l.changes.readings ≡ l.fn.changes.readings;
  grow : StepsGrow l.fn.work l.work;
}
