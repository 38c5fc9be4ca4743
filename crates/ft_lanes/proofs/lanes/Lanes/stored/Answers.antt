use Rattle.std.proofs.Common.{sym, ap, ◌∙◌, arith}
use Rattle.std.specs.Ordering.{nat_cmp}
use Rattle.ft_maps.specs.Seen.{seen}
use Rattle.ft_lanes.specs.Held.{held_in}
use Rattle.ft_store.specs.Stored.{stored_at}
use Rattle.ft_lanes.proofs.Counts.{held-slots}
use Rattle.ft_lanes.proofs.lanes.Lanes.stored.Goals as goal

pub returns : goal.returns
returns c =
    let counted = c.self.invariant.counted ∙ sym (held-slots (stored_at c.self.inside.store) (seen nat_cmp c.self.inside.lanes)) ∙ ap held_in c.self.view_is in
    omega (arith, counted, c.self.invariant.few)
