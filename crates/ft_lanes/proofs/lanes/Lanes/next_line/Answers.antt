use Rattle.std.proofs.Common.{ap, ◌∙◌, unwrap_or}
use Rattle.std.specs.Ordering.{nat_cmp}
use Rattle.std.specs.FinMap as map
use Rattle.ft_maps.specs.Seen.{seen}
use Rattle.ft_lanes.specs.Held.{Lanes}
use Rattle.ft_lanes.specs.Edits.{new_lane}
use Rattle.ft_store.specs.Stored.{stored_at}
use Rattle.ft_lanes.proofs.Views.{lane-or_new}
use Rattle.ft_lanes.proofs.lanes.Lanes.next_line.Goals as goal

pub returns : goal.returns
returns c =
    c.next_in.ensures
    ∙ ap (λ l. l.next) (lane-or_new (stored_at c.self.inside.store) (seen nat_cmp c.self.inside.lanes) c.args.cpu)
    ∙ ap (λ (lanes : Lanes). (unwrap_or (map.get lanes c.args.cpu) new_lane).next) c.self.view_is
