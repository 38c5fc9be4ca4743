-- The rows that are not struck are the slots.
use Rattle.std.proofs.Common.{ap, arith}
use Rattle.std.specs.FinMap as map
use Rattle.ft_lanes.specs.inner.Slots.{SlotsOf}
use Rattle.ft_lanes.proofs.RowLines.{len-places}
use Rattle.ft_lanes.proofs.slots.Slots.len.Goals as goal

pub returns : goal.returns
returns c =
    let places = len-places c.self.inside.rows.items c.self.invariant.rise in
    let seen = ap (λ (s : SlotsOf). map.len s.places) c.self.view_is in
    omega (arith, c.len.ensures, c.self.invariant.counted, places, seen)
