-- Without slots, no event of the store is held.
use Rattle.std.proofs.Common.{sym, ◌∙◌, length}
use Rattle.std.specs.Ordering.{nat_cmp}
use Rattle.ft_maps.specs.Seen.{seen}
use Rattle.ft_store.specs.Stored.{stored_at}
use Rattle.ft_lanes.proofs.Counts.{stored-none}
use Rattle.ft_lanes.proofs.Views.{lanes-none}
use Rattle.ft_lanes.proofs.lanes.Lanes.forget_dead.Goals as goal

pub invariant_of-self : goal.invariant_of-self
invariant_of-self c = stored-none (length c.self.inside.store) (length c.clear.new.self) c.self.inside.held (seen nat_cmp c.self.inside.lanes) c.self.invariant c.if-self-eq0.true

pub returns-then-self-eq0 : goal.returns-then-self-eq0
returns-then-self-eq0 c =
    lanes-none (stored_at c.clear.new.self) (stored_at c.self.inside.store) (seen nat_cmp c.self.inside.lanes) (sym c.self.invariant.counted ∙ c.if-self-eq0.true)
    ∙ c.self.view_is
