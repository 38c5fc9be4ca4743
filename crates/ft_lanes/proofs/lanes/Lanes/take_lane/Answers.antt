-- A lane of slots is taken out, and so its events are.
use Rattle.std.proofs.Common.{sym, ap, ◌∙◌, ◌+◌, length, option_map}
use Rattle.std.specs.Ordering.{nat_cmp}
use Rattle.std.specs.FinMap as map
use Rattle.ft_maps.specs.Seen.{seen}
use Rattle.ft_lanes.specs.Held.{Lane, Lanes}
use Rattle.ft_store.specs.Stored.{stored_at}
use Rattle.ft_lanes.specs.inner.Slots.{lanes_by, slots_in}
use Rattle.ft_lanes.proofs.Counts.{stored-unloaded}
use Rattle.ft_lanes.proofs.Views.{lanes-unloaded, count-at}
use Rattle.ft_lanes.proofs.lanes.Lanes.take_lane.Goals as goal

pub invariant_of-self : goal.invariant_of-self
invariant_of-self c =
    let all = seen nat_cmp c.self.inside.lanes in
    let new = seen nat_cmp c.take_lane_in-count.new.lanes in
    stored-unloaded (length c.self.inside.store) c.self.inside.held all new c.args.cpu c.unwrap_or.result c.self.invariant c.take_lane_in-count.ensures.rest
    (c.take_lane_in-count.ensures.count ∙ ap (λ n. slots_in new + n) (sym c.unwrap_or.ensures))

pub returns-clause-value : goal.returns-clause-value
returns-clause-value c =
    c.take_lane_in-count.ensures.value
    ∙ count-at (stored_at c.self.inside.store) (seen nat_cmp c.self.inside.lanes) c.args.cpu
    ∙ ap (λ (lanes : Lanes). option_map (λ (lane : Lane). map.len lane.events) (map.get lanes c.args.cpu)) c.self.view_is

pub returns-clause-rest : goal.returns-clause-rest
returns-clause-rest c =
    let at = stored_at c.self.inside.store in
    c.forget_dead.ensures
    ∙ ap (lanes_by at) c.take_lane_in-count.ensures.rest
    ∙ lanes-unloaded at (seen nat_cmp c.self.inside.lanes) c.args.cpu
    ∙ ap (λ (lanes : Lanes). map.remove lanes c.args.cpu) c.self.view_is
