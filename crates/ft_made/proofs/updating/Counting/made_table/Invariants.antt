use Rattle.std.proofs.Common.{◌≡◌, None}
use Rattle.std.specs.List.{AllByRecursion}
use Rattle.ft_hist.specs.Steps.{StepsGrow}
use Rattle.ft_replay.specs.Merged.{merged}
use Rattle.ft_made.specs.Laws.{MakeNone}
use Rattle.ft_made.proofs.MadeTables.{IsFilledBut}
use Rattle.ft_made.proofs.updating.Counting.made_table.Given as goal

-- the table is filled, except for the readings of the triggers that are left; no count of steps fell, and if no trigger makes events, none that is left does, and no count rose
abbrev pub invariant-loop-id : goal.invariant-loop-id
invariant-loop-id g l = record {
  way : IsFilledBut l.self.triggers.now (g.R.KeptReadings.pairs l.readings) (merged l.self.lanes.now) l.self.trigger.now l.id-iterator l.table;
  idle : MakeNone l.self.triggers.now → AllByRecursion (λ e. e.1.onmatch ≡ None) l.id-iterator × (l.work ≡ l.fn.work);
  grow : StepsGrow l.fn.work l.work;
}
