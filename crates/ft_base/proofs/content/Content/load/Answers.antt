-- Each way through is a case of `after_load` at the board's view.
use Rattle.std.proofs.Common.{◌≡◌, ◌+◌, ◌≤◌, length, refl, sym, ap, ◌∙◌, inr, Ok, Err, arith}
use Rattle.ft_base.specs.contracts.content.Content.{the_view}
use Rattle.ft_base.specs.declared.refused.Refused.TheVariants.{LaneHeld}
use Rattle.ft_lanes.specs.Held.{event_limit, held_in}
use Rattle.ft_lanes.specs.Loaded.{with_lanes}
use Rattle.ft_lanes.proofs.Views.{at_ok}
use Rattle.ft_base.specs.After.{after_load}
use Rattle.ft_base.proofs.After.{load-held, load-full, load-ok}
use Rattle.ft_base.proofs.Reachable.{load-IsReachable}
use Rattle.ft_base.proofs.content.Content.load.Goals as goal

pub returns-in-Some : goal.returns-in-Some
returns-in-Some c = (
  refl,
  inr (
      ap (λ b. after_load b c.args.events) (sym c.self.view_is)
      ∙ load-held (the_view c.self.inside) c.args.events c.in-Some.cpu c.in-Some.ensures.value
      ∙ ap (λ cpu. Err (LaneHeld cpu)) (sym c.from.ensures)),
)

pub returns-then-saturating_add-gt-EVENT_LIMIT : goal.returns-then-saturating_add-gt-EVENT_LIMIT
returns-then-saturating_add-gt-EVENT_LIMIT c = (
  refl,
  inr (
      ap (λ b. after_load b c.args.events) (sym c.self.view_is)
      ∙ load-full (the_view c.self.inside) c.args.events c.in_default.ensures.value (omega (arith, c.len.ensures))),
)

pub invariant_of-self-2 : goal.invariant_of-self-2
invariant_of-self-2 c =
    let base = the_view c.self.inside in
    let es = c.args.events in
    let lanes : c.load.new.self ≡ with_lanes base.lanes es = at_ok c.load.result c.if-is_err.ensures.value c.load.ensures.ok in
    let few : held_in base.lanes + length es ≤ event_limit = omega (arith, c.len.ensures) in
    rw lanes (load-IsReachable base es c.self.invariant (c.in_default.ensures.cpus refl) (sym c.in_default.ensures.value) few)

pub returns : goal.returns
returns c =
    let base = the_view c.self.inside in
    let es = c.args.events in
    let lanes : c.load.new.self ≡ with_lanes base.lanes es = at_ok c.load.result c.if-is_err.ensures.value c.load.ensures.ok in
    let few : held_in base.lanes + length es ≤ event_limit = omega (arith, c.len.ensures) in
    let count : length es ≡ c.len-count.result = omega arith in
    ap (λ b. after_load b es) (sym c.self.view_is) ∙ load-ok base es c.in_default.ensures.value few ∙ (λ i. Ok (record base { lanes = sym lanes i }, count i))
