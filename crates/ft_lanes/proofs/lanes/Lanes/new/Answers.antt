-- An empty tree is seen as no lanes.
use Rattle.std.proofs.Common.{sym, ap, ◌∙◌, subst, length, arith}
use Rattle.std.specs.Ordering.{nat_cmp}
use Rattle.ft_maps.specs.Seen.{seen-empty}
use Rattle.ft_store.specs.Stored.{stored_at}
use Rattle.ft_lanes.specs.inner.Slots.{lanes_by, AreStored}
use Rattle.ft_lanes.proofs.Each.{within-empty}
use Rattle.ft_lanes.proofs.Counts.{slots-empty}
use Rattle.ft_lanes.proofs.Views.{lanes-empty}
use Rattle.ft_lanes.proofs.lanes.Lanes.new.Goals as goal

pub invariant_of-result : goal.invariant_of-result
invariant_of-result c =
    subst (AreStored (length c.new.result) 0) (sym (seen-empty nat_cmp c.new-2.result c.new-2.ensures.empty))
    (record { within = within-empty (length c.new.result); counted = sym slots-empty; few = omega arith })

pub returns : goal.returns
returns c = ap (lanes_by (stored_at c.new.result)) (seen-empty nat_cmp c.new-2.result c.new-2.ensures.empty) ∙ lanes-empty (stored_at c.new.result)
