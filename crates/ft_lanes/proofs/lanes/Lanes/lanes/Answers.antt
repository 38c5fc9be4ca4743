-- The lanes of a walk are those of the slots, which `get` finds.
use Rattle.std.proofs.Common.{sym, ap, ◌∙◌}
use Rattle.std.specs.Ordering.{nat_cmp}
use Rattle.std.specs.Cmp.{nat_cmp_total}
use Rattle.std.specs.FinMap as map
use Rattle.ft_maps.specs.Seen.{seen, entries-seen}
use Rattle.ft_maps.specs.Mapped.{entries_by, entries-map_by}
use Rattle.ft_lanes.specs.Held.{Lanes}
use Rattle.ft_store.specs.Stored.{stored_at}
use Rattle.ft_lanes.specs.inner.Slots.{lane_by}
use Rattle.ft_lanes.specs.Walks.{itself}
use Rattle.ft_lanes.proofs.Runs.{shows_in_order}
use Rattle.ft_lanes.proofs.lanes.Lanes.lanes.Goals as goal

pub returns-clause-rest : goal.returns-clause-rest
returns-clause-rest c =
    let at = stored_at c.self.inside.store in
    let lanes = c.self.inside.lanes in
    c.new.ensures
    ∙ ap (entries_by (lane_by at)) c.iter.ensures.rest
    ∙ ap (entries_by (lane_by at)) (sym (entries-seen nat_cmp_total lanes c.iter.ensures.ordered))
    ∙ sym (entries-map_by (lane_by at) nat_cmp_total (seen nat_cmp lanes))
    ∙ ap (λ (held : Lanes). map.entries held) c.self.view_is

pub returns-clause-runs : goal.returns-clause-runs
returns-clause-runs c = shows_in_order itself
