-- The lines of a lane are those of its slots.
use Rattle.std.proofs.Common.{sym, ap, ◌∙◌}
use Rattle.std.specs.Cmp.{nat_cmp_total}
use Rattle.std.specs.FinMap as map
use Rattle.ft_maps.specs.Mapped.{entries_by, entries-map_by}
use Rattle.ft_lanes.specs.Held.{Lane}
use Rattle.ft_store.specs.Stored.{stored_at}
use Rattle.ft_lanes.specs.Walks.{traced_line}
use Rattle.ft_lanes.proofs.Runs.{shows_in_order}
use Rattle.ft_lanes.proofs.walk.Lane.lines.Goals as goal

pub returns-clause-rest : goal.returns-clause-rest
returns-clause-rest c =
    let at = stored_at c.self.inside.store.now in
    c.new.ensures
    ∙ ap (entries_by at) c.rows.ensures.value
    ∙ sym (entries-map_by at nat_cmp_total c.self.inside.slots.now.places)
    ∙ ap (λ (lane : Lane). map.entries lane.events) c.self.view_is

pub returns-clause-runs : goal.returns-clause-runs
returns-clause-runs c = shows_in_order traced_line
