-- The lines of a lane are those of its slots.
use Rattle.std.proofs.Common.{◌<◌, ℕ, sym, ap, ◌∙◌, subst}
use Rattle.std.specs.List.{AllByRecursion}
use Rattle.std.specs.Cmp.{nat_cmp_total}
use Rattle.std.specs.Map.{keys_of}
use Rattle.std.specs.FinMap as map
use Rattle.std.proofs.lemmas.Map.Made.{keys_of-map_values}
use Rattle.ft_maps.specs.Mapped.{entries-map_by}
use Rattle.ft_lanes.specs.Held.{Lane}
use Rattle.ft_store.specs.Stored.{stored_at}
use Rattle.ft_lanes.proofs.walk.Lane.next.Goals as goal

pub returns-clause-above : goal.returns-clause-above
returns-clause-above c =
    let at = stored_at c.self.inside.store.now in
    let places = c.self.inside.slots.now.places in
    let Below : ℕ → Type 0 = λ line. line < c.next.result in
    subst (λ (lane : Lane). AllByRecursion Below (keys_of (map.entries lane.events))) c.self.view_is
    (subst (AllByRecursion Below) (sym (ap keys_of (entries-map_by at nat_cmp_total places) ∙ keys_of-map_values at (map.entries places))) c.next.ensures.above)
