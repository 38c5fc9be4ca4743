-- The lines of slots are lines of rows.
use Rattle.std.proofs.Common.{◌<◌, sym, subst}
use Rattle.std.specs.FinMap as map
use Rattle.ft_lanes.specs.inner.Slots.{SlotsOf}
use Rattle.ft_lanes.specs.inner.Rows.{AreBelow}
use Rattle.ft_lanes.proofs.RowLines.{entries-places, each-held}
use Rattle.ft_lanes.proofs.slots.Slots.next.Goals as goal

pub returns-clause-above : goal.returns-clause-above
returns-clause-above c =
    let rows = c.self.inside.rows.items in
    let next = c.self.inside.next in
    subst (λ (s : SlotsOf). AreBelow next (map.entries s.places)) c.self.view_is
    (subst (AreBelow next) (sym (entries-places rows c.self.invariant.rise)) (each-held (λ line. line < next) rows c.self.invariant.below))
