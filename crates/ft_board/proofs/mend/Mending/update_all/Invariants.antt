use Rattle.std.specs.Ordering.{nat_cmp}
use Rattle.ft_hist.specs.Steps.{StepsGrow}
use Rattle.ft_board.specs.inner.Mending.{Updates, triggers_in}
use Rattle.ft_board.proofs.MadeShelves.{AreUpdating}
use Rattle.ft_maps.specs.Seen.{seen}
use Rattle.ft_board.proofs.mend.Mending.update_all.Given as goal

-- each table is up to date, except those of the triggers that are left, and no count of steps fell
abbrev pub invariant-loop-id : goal.invariant-loop-id
invariant-loop-id l = record {
  updated : AreUpdating (triggers_in l.self) (Updates l.self) (seen nat_cmp l.fn.made) l.id-iterator (seen nat_cmp l.made);
  grow : StepsGrow l.fn.work l.work;
}
