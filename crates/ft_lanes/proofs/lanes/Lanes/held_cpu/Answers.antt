use Rattle.std.proofs.Common.{ap, ◌∙◌}
use Rattle.std.specs.Ordering.{nat_cmp}
use Rattle.ft_maps.specs.Seen.{seen}
use Rattle.ft_lanes.specs.Held.{Lanes}
use Rattle.ft_lanes.specs.Loaded.{first_held}
use Rattle.ft_store.specs.Stored.{stored_at}
use Rattle.ft_lanes.proofs.Loads.{first_held-slots}
use Rattle.ft_lanes.proofs.lanes.Lanes.held_cpu.Goals as goal

pub returns-clause-value : goal.returns-clause-value
returns-clause-value c =
    c.held_cpu_in.ensures.value
    ∙ first_held-slots (stored_at c.self.inside.store) (seen nat_cmp c.self.inside.lanes) c.args.events.now
    ∙ ap (λ (lanes : Lanes). first_held lanes c.args.events.now) c.self.view_is

pub returns-clause-cpus : goal.returns-clause-cpus
returns-clause-cpus c none = c.held_cpu_in.ensures.cpus none
