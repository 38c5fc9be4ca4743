-- Taking a lane away keeps what all edits keep.
use Rattle.std.proofs.Common.{◌≡◌, ap, ◌∙◌, Option, Some, None, refl, unwrap_or}
use Rattle.std.specs.Prelude.{option_map}
use Rattle.std.specs.Option.{option_map_or}
use Rattle.std.specs.FinMap as map
use Rattle.ft_lanes.specs.Held.{Lane, held_on}
use Rattle.ft_base.specs.contracts.content.Content.{the_view}
use Rattle.ft_base.specs.Base.{Base}
use Rattle.ft_base.proofs.LaneEdits.{unload-IsReachable}
use Rattle.ft_base.proofs.content.Content.take_lane.Goals as goal

pub invariant_of-self : goal.invariant_of-self
invariant_of-self c = rw (c.take_lane.ensures.rest) (unload-IsReachable (the_view c.self.inside) c.args.lane c.self.invariant)

count : (o : Option Lane) → unwrap_or (option_map (λ (lane : Lane). map.len lane.events) o) 0 ≡ option_map_or (λ (lane : Lane). map.len lane.events) o 0
count None = refl
count (Some lane) = refl

pub returns-clause-value : goal.returns-clause-value
returns-clause-value c =
    let base : Base = the_view c.self.inside in
    c.unwrap_or.ensures ∙ ap (λ o. unwrap_or o 0) c.take_lane.ensures.value ∙ count (map.get base.lanes c.args.lane) ∙ ap (λ (b : Base). held_on b.lanes c.args.lane) c.self.view_is
