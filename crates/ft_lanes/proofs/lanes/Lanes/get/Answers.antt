-- The event of a line is the one at its place.
use Rattle.std.proofs.Common.{sym, ap, ◌∙◌, option_map}
use Rattle.std.specs.Ordering.{nat_cmp}
use Rattle.ft_maps.specs.Seen.{seen}
use Rattle.ft_lanes.specs.Held.{Lanes, event_at}
use Rattle.ft_store.specs.Stored.{stored_at}
use Rattle.ft_lanes.proofs.Views.{event_at-place}
use Rattle.ft_lanes.proofs.lanes.Lanes.get.Goals as goal

pub returns : goal.returns
returns c =
    let at = stored_at c.self.inside.store in
    c.event_of.ensures
    ∙ ap (option_map at) c.place_in.ensures
    ∙ sym (event_at-place at (seen nat_cmp c.self.inside.lanes) c.args.cpu c.args.line)
    ∙ ap (λ (lanes : Lanes). event_at lanes c.args.cpu c.args.line) c.self.view_is
