use Rattle.std.proofs.Common.{◌+◌, ◌≤◌}
use Rattle.ft_repair.proofs.Putting.{IsPut, tests_in}
use Rattle.ft_replay.specs.Costs.{family_tests}
use Rattle.ft_base.specs.OneTrigger.{is_in_family}
use Rattle.ft_hist.specs.Steps.{StepsGrow}
use Rattle.ft_kept.specs.Views.{triggers_of}
use Rattle.ft_repair.proofs.triggers.join_family.Given as goal

-- those of the family that are left are idle, and their tests are left too; no count fell
abbrev pub invariant-loop-id : goal.invariant-loop-id
invariant-loop-id l = record {
  put : IsPut (triggers_of l.scene) l.scene.lanes.now (is_in_family (triggers_of l.scene) l.head) l.id-iterator l.tables;
  evals : l.work.evals + tests_in (is_in_family (triggers_of l.scene) l.head) l.scene.lanes.now l.id-iterator ≤ l.fn.work.evals + family_tests l.content.triggers l.content.lanes l.head;
  grow : StepsGrow l.fn.work l.work;
}
