use Rattle.std.proofs.Common.{true}
use Rattle.ft_repair.proofs.Putting.{IsPut}
use Rattle.ft_hist.specs.Steps.{StepsGrow}
use Rattle.ft_kept.specs.Views.{triggers_of}
use Rattle.ft_repair.proofs.triggers.rebuilt.Given as goal

-- the triggers that are left are idle; no count of steps fell
abbrev pub invariant-loop-id : goal.invariant-loop-id
invariant-loop-id l = record {
  put : IsPut (triggers_of l.scene) l.scene.lanes.now (λ _. true) l.id-iterator l.tables;
  grow : StepsGrow l.fn.work l.work;
}
