use Rattle.std.proofs.Common.{ap, ◌∙◌}
use Rattle.std.specs.Ordering.{nat_cmp}
use Rattle.ft_maps.specs.Seen.{seen}
use Rattle.ft_lanes.specs.Held.{Lanes, held_on}
use Rattle.ft_store.specs.Stored.{stored_at}
use Rattle.ft_lanes.proofs.Views.{count-on}
use Rattle.ft_lanes.proofs.lanes.Lanes.held_on.Goals as goal

pub returns : goal.returns
returns c =
    c.count_in.ensures
    ∙ count-on (stored_at c.self.inside.store) (seen nat_cmp c.self.inside.lanes) c.args.cpu
    ∙ ap (λ (lanes : Lanes). held_on lanes c.args.cpu) c.self.view_is
