use Rattle.std.proofs.Common.{◌≡◌, suc, Some}
use Rattle.std.specs.Option.{option_map_or}
use Rattle.ft_pairs.specs.declared.at.At.{At}
use Rattle.ft_pairs.specs.declared.at.Op.{Op}
use Rattle.ft_shelves.specs.Counts.{TestsNone}
use Rattle.ft_shelves.specs.Shelves.{kept_on}
use Rattle.ft_kept.specs.inner.Edits.{left_on}
use Rattle.ft_kept.specs.inner.Readings.{AreSettled}
use Rattle.ft_kept.specs.Changes.{ChangeUnder}
use Rattle.ft_kept.specs.inner.Telling.{variable_key}
use Rattle.ft_kept.proofs.Walks.{IsPassedRead}
use Rattle.ft_kept.proofs.settle.settle_key.Given as goal

abbrev pub ghost-settle_op : goal.ghost-settle_op
ghost-settle_op g a = g.acts

abbrev pub invariant-loop-next : goal.invariant-loop-next
invariant-loop-next g l = record {
  settled : AreSettled l.act.scene g.acts (IsPassedRead ((kept_on l.fn.tables).ops l.variable) l.next) l.fn.tables l.tables;
  there : (step : At × Op) → l.next ≡ Some step → (kept_on l.fn.tables).ops l.variable step.0 ≡ Some step.1;
  told : ChangeUnder (variable_key l.variable) l.fn.readings l.readings l.fn.tables l.tables;
  work : TestsNone l.fn.work l.work;
}

abbrev pub decreases-loop-next : goal.decreases-loop-next
decreases-loop-next g l = option_map_or (λ (step : At × Op). suc (left_on l.tables l.variable (Some step.0))) l.next 0
