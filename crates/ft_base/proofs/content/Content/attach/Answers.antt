-- Each way through is a case of `after_attach` at the board's view.
use Rattle.std.proofs.Common.{◌≡◌, ◌+◌, ◌<◌, refl, sym, ap, subst, ◌∙◌, inr, None, Ok, arith}
use Rattle.std.specs.FinMap as map
use Rattle.ft_lanes.proofs.Views.{at_ok}
use Rattle.ft_base.specs.contracts.content.Content.{the_view}
use Rattle.ft_base.specs.Base.{Base, trigger_limit}
use Rattle.ft_base.specs.OneTrigger.{JoinsAs}
use Rattle.ft_base.specs.After.{after_attach, variable_refusal}
use Rattle.ft_base.proofs.After.{at_err, attach-many, attach-high, attach-against, attach-ok}
use Rattle.ft_base.proofs.Attaching.{attach-IsReachable}
use Rattle.ft_base.proofs.Unread.{attached_joins}
use Rattle.ft_base.proofs.content.Content.attach.Goals as goal
use Rattle.ft_base.proofs.content.Content.attach.Goals.{then-len-ge-TRIGGER_LIMIT-via-then-len-ge-TRIGGER_LIMIT, then-len-ge-TRIGGER_LIMIT-via-else-len-ge-TRIGGER_LIMIT+then-self-gt-ID_LIMIT}

pub returns-then-len-ge-TRIGGER_LIMIT-clause-gives : goal.returns-then-len-ge-TRIGGER_LIMIT-clause-gives
returns-then-len-ge-TRIGGER_LIMIT-clause-gives c = (
  refl,
  inr (
      ap (λ b. after_attach b c.args.trigger) (sym c.self.view_is)
      ∙ elim c.then-len-ge-TRIGGER_LIMIT.branch [
        | then-len-ge-TRIGGER_LIMIT-via-then-len-ge-TRIGGER_LIMIT w ↦ attach-many (the_view c.self.inside) c.args.trigger (omega (arith, c.len.ensures))
        | then-len-ge-TRIGGER_LIMIT-via-else-len-ge-TRIGGER_LIMIT+then-self-gt-ID_LIMIT w ↦ attach-high (the_view c.self.inside) c.args.trigger (omega arith)
      ]),
)

pub returns-in-Some-clause-gives : goal.returns-in-Some-clause-gives
returns-in-Some-clause-gives c =
    let base = the_view c.self.inside in
    let few : map.len base.triggers < trigger_limit = omega (arith, c.len.ensures) in (
      refl,
      inr (ap (λ b. after_attach b c.args.trigger) (sym c.self.view_is) ∙ attach-against base c.args.trigger c.in-Some.refused few (omega arith) (sym c.in-Some.ensures)),
    )

pub invariant_of-self : goal.invariant_of-self
invariant_of-self c = rw (at_err c.insert.result c.if-is_err.ensures.value c.insert.ensures.err) c.self.invariant

pub invariant_of-self-2 : goal.invariant_of-self-2
invariant_of-self-2 c =
    let base = the_view c.self.inside in
    let hist = c.args.trigger in
    let triggers : c.insert.new.self ≡ map.insert base.triggers base.next_id hist = at_ok c.insert.result c.if-is_err.ensures.value c.insert.ensures.ok in
    let few : map.len base.triggers < trigger_limit = omega (arith, c.len.ensures) in
    let free : variable_refusal base.triggers hist hist.variable ≡ None = sym c.in_default.ensures in
    rw triggers (attach-IsReachable base hist c.self.invariant few (omega arith) free)

pub returns-clause-gives : goal.returns-clause-gives
returns-clause-gives c =
    let base = the_view c.self.inside in
    let hist = c.args.trigger in
    let triggers : c.insert.new.self ≡ map.insert base.triggers base.next_id hist = at_ok c.insert.result c.if-is_err.ensures.value c.insert.ensures.ok in
    let few : map.len base.triggers < trigger_limit = omega (arith, c.len.ensures) in
    let free : variable_refusal base.triggers hist hist.variable ≡ None = sym c.in_default.ensures in
    ap (λ b. after_attach b hist) (sym c.self.view_is) ∙ attach-ok base hist few (omega arith) free ∙ (λ i. Ok (record base { triggers = sym triggers i; next_id = base.next_id + 1 }, base.next_id))

pub returns-clause-joins : goal.returns-clause-joins
returns-clause-joins c =
    let base = the_view c.self.inside in
    let hist = c.args.trigger in
    let triggers : c.insert.new.self ≡ map.insert base.triggers base.next_id hist = at_ok c.insert.result c.if-is_err.ensures.value c.insert.ensures.ok in
    let few : map.len base.triggers < trigger_limit = omega (arith, c.len.ensures) in
    let free : variable_refusal base.triggers hist hist.variable ≡ None = sym c.in_default.ensures in
    subst (λ (b : Base × Base). JoinsAs base.next_id hist b.0 b.1) (λ i. (c.self.view_is i, record base { triggers = sym triggers i; next_id = base.next_id + 1 }))
    (attached_joins base hist c.self.invariant few (omega arith) free)
