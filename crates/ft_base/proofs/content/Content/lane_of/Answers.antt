-- Each way through is a case of `after_unload` at the view.
use Rattle.std.proofs.Common.{◌≡◌, ℕ, refl, sym, ap, subst, ◌∙◌, Ok}
use Rattle.std.specs.FinMap as map
use Rattle.ft_lanes.specs.Held.{held_on}
use Rattle.ft_base.specs.contracts.content.Content.{the_view}
use Rattle.ft_base.specs.After.{after_unload}
use Rattle.ft_base.specs.Base.{Base}
use Rattle.ft_base.proofs.Cases.{unload-none}
use Rattle.ft_base.proofs.HeldLanes.{unload-held}
use Rattle.ft_base.proofs.content.Content.lane_of.Goals as goal

pub returns-in-None-clause-gives : goal.returns-in-None-clause-gives
returns-in-None-clause-gives c =
    ap (λ b. after_unload b c.args.cpu) (sym c.self.view_is) ∙ unload-none (the_view c.self.inside) c.args.cpu (c.in-None.ensures.none refl)

pub returns-in-Some-clause-gives : goal.returns-in-Some-clause-gives
returns-in-Some-clause-gives c =
    let base : Base = the_view c.self.inside in
    let at : after_unload base c.args.cpu ≡ Ok (record base { lanes = map.remove base.lanes c.args.cpu }, held_on base.lanes c.args.cpu) = unload-held base c.args.cpu c.in-Some.ensures.held in
    let gives : after_unload base c.args.cpu ≡ Ok (record base { lanes = map.remove base.lanes c.in-Some.lane }, held_on base.lanes c.in-Some.lane) =
    subst (λ (k : ℕ). after_unload base c.args.cpu ≡ Ok (record base { lanes = map.remove base.lanes k }, held_on base.lanes k)) (sym c.in-Some.ensures.same) at in
    subst (λ (b : Base). after_unload b c.args.cpu ≡ Ok (record b { lanes = map.remove b.lanes c.in-Some.lane }, held_on b.lanes c.in-Some.lane)) c.self.view_is gives
