-- Each way through is a case of `after_strike` at the view.
use Rattle.std.proofs.Common.{◌≡◌, refl, sym, ap, ◌∙◌, None, Ok, subst}
use Rattle.std.specs.Prelude.{IsSome}
use Rattle.ft_lanes.specs.Held.{event_at}
use Rattle.ft_lanes.specs.Edits.{lanes_without}
use Rattle.ft_base.specs.Base.{Base}
use Rattle.ft_base.specs.contracts.content.Content.{the_view}
use Rattle.ft_base.specs.After.{after_strike}
use Rattle.ft_base.proofs.Cases.{strike-no_lane}
use Rattle.ft_base.proofs.HeldLanes.{strike-missing, strike-found}
use Rattle.ft_base.proofs.content.Content.place_of.Goals as goal

pub returns-in_default-clause-gives : goal.returns-in_default-clause-gives
returns-in_default-clause-gives c =
    ap (λ b. after_strike b c.args.cpu c.args.line) (sym c.self.view_is) ∙ strike-no_lane (the_view c.self.inside) c.args.cpu c.args.line (c.in_default.ensures.none refl)

pub returns-in_default-get-clause-gives : goal.returns-in_default-get-clause-gives
returns-in_default-get-clause-gives c =
    let base = the_view c.self.inside in
    let missing : event_at base.lanes c.args.cpu c.args.line ≡ None = ap (λ k. event_at base.lanes k c.args.line) (sym c.in-Some.ensures.same) ∙ sym c.in_default-get.ensures in
    ap (λ b. after_strike b c.args.cpu c.args.line) (sym c.self.view_is) ∙ strike-missing base c.args.cpu c.args.line c.in-Some.ensures.held missing

pub returns-clause-gives : goal.returns-clause-gives
returns-clause-gives c =
    let base = the_view c.self.inside in
    let same : c.in-Some.lane ≡ c.args.cpu = c.in-Some.ensures.same in
    let found : IsSome (event_at base.lanes c.args.cpu c.args.line) = subst (λ k. IsSome (event_at base.lanes k c.args.line)) same (subst IsSome c.in-Some-get.ensures refl) in
    let gives : after_strike base c.args.cpu c.args.line ≡ Ok (record base { lanes = lanes_without base.lanes c.in-Some.lane c.args.line }, record { cpu = c.in-Some.lane; line = c.args.line }) =
    strike-found base c.args.cpu c.args.line found ∙ (λ i. Ok (record base { lanes = lanes_without base.lanes (sym same i) c.args.line }, record { cpu = sym same i; line = c.args.line })) in
    subst (λ (b : Base). after_strike b c.args.cpu c.args.line ≡ Ok (record b { lanes = lanes_without b.lanes c.in-Some.lane c.args.line }, record { cpu = c.in-Some.lane; line = c.args.line })) c.self.view_is gives
