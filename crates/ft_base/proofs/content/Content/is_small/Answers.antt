-- What a lane doesn't have of all events, the others have.
use Rattle.std.proofs.Common.{◌≡◌, ◌-◌, ap, ◌∙◌, arith}
use Rattle.std.specs.Prelude.{nat_lt}
use Rattle.std.specs.FinMap as map
use Rattle.ft_lanes.specs.Held.{held_in, is_small}
use Rattle.ft_base.specs.contracts.content.Content.{the_view}
use Rattle.ft_base.specs.Base.{Base}
use Rattle.ft_base.proofs.LaneEdits.{held-removed}
use Rattle.ft_base.proofs.content.Content.is_small.Goals as goal

pub returns : goal.returns
returns c =
    let base : Base = the_view c.self.inside in
    let rest : c.saturating_sub.result ≡ held_in (map.remove base.lanes c.args.lane) = c.saturating_sub.ensures ∙ (λ i. c.len.ensures i - c.held_on-count.ensures i) ∙ omega (arith, held-removed base.lanes c.args.lane) in
    (λ i. nat_lt (c.held_on-count.ensures i) (rest i)) ∙ ap (λ (b : Base). is_small b.lanes c.args.lane) c.self.view_is
