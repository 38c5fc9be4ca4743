use Rattle.std.proofs.Common.{◌≡◌, ◌+◌, ◌*◌}
use Rattle.std.specs.FinMap as map
use Rattle.ft_hist.specs.Steps.{StepsGrow}
use Rattle.ft_hist.specs.Tests.{count_on}
use Rattle.ft_kept.specs.Input.{input_of}
use Rattle.ft_kept.specs.Bounds.{SomeSaverMoves}
use Rattle.ft_kept.specs.Memory.{AllActPlainly}
use Rattle.ft_kept.specs.Views.{AreViewsOf, triggers_of, with_some}
use Rattle.ft_kept.specs.Signs.{table_edit, event_after}
use Rattle.ft_shelves.specs.Shelves.{FormsStay}
use Rattle.ft_kept.proofs.Between.{AreLeft, all_but, asked_of}
use Rattle.ft_kept.proofs.FewPuts.{Few, LeftStay}
use Rattle.ft_kept.proofs.Told.{IsToldOf}
use Rattle.ft_kept.proofs.tables.Tables.apply.Given as goal

-- at the event's place the triggers that are done act as they will, those that are left as they did
abbrev pub invariant-loop-id : goal.invariant-loop-id
invariant-loop-id l = record {
  left : AreLeft (triggers_of l.scene) l.id-iterator;
  forms : FormsStay l.fn.self l.self;
  views : AreViewsOf (triggers_of l.scene) l.scene.lanes.now
      (with_some (triggers_of l.scene) (input_of (triggers_of l.scene) l.scene.lanes.now l.fn.self) l.delta.pos (event_after l.delta.sign l.delta.event.now) (all_but l.id-iterator)) l.self;
  told : IsToldOf (map.entries (triggers_of l.scene)) l.id-iterator l.fn.changes l.changes l.fn.self l.self;
  evals : l.work.evals + asked_of l.delta.event.now l.id-iterator ≡ l.fn.work.evals + count_on (triggers_of l.scene) l.delta.event.now;
  savers : LeftStay (all_but l.id-iterator) l.fn.self l.self;
  puts : Few (SomeSaverMoves (table_edit l.delta.sign l.delta.pos l.delta.event.now) (triggers_of l.scene) l.fn.self) l.work.puts (asked_of l.delta.event.now l.id-iterator)
      (l.fn.work.puts + 3 * count_on (triggers_of l.scene) l.delta.event.now);
  quiet : AllActPlainly (triggers_of l.scene) l.fn.self l.delta.event.now → l.changes.readings ≡ l.fn.changes.readings;
  grow : StepsGrow l.fn.work l.work;
}
