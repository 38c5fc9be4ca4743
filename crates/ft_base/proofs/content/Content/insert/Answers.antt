-- Each way through is a case of `after_insert` at the board's view.
use Rattle.std.proofs.Common.{◌≡◌, ℕ, ◌<◌, ◌≤◌, refl, sym, ap, ◌∙◌, subst, inr, Ok, arith}
use Rattle.ft_lanes.specs.Held.{HasCpu, event_limit, number_limit, held_in}
use Rattle.ft_lanes.specs.Edits.{lane_or_new}
use Rattle.ft_base.specs.contracts.content.Content.{the_view}
use Rattle.ft_base.specs.After.{after_insert}
use Rattle.ft_base.proofs.Cases.{insert-full, insert-high, insert-ok}
use Rattle.ft_base.proofs.LaneEdits.{insert-IsReachable}
use Rattle.ft_base.proofs.content.Content.insert.Goals as goal
use Rattle.ft_base.proofs.content.Content.insert.Goals.{then-len-ge-EVENT_LIMIT-via-then-len-ge-EVENT_LIMIT, then-len-ge-EVENT_LIMIT-via-else-len-ge-EVENT_LIMIT+then-next_line-gt-LINE_LIMIT}

pub returns-then-len-ge-EVENT_LIMIT-clause-gives : goal.returns-then-len-ge-EVENT_LIMIT-clause-gives
returns-then-len-ge-EVENT_LIMIT-clause-gives c =
    let base = the_view c.self.inside in (
      refl,
      inr (
          ap (λ b. after_insert b c.args.event) (sym c.self.view_is)
          ∙ elim c.then-len-ge-EVENT_LIMIT.branch [
            | then-len-ge-EVENT_LIMIT-via-then-len-ge-EVENT_LIMIT w ↦ insert-full base c.args.event (omega (arith, c.len.ensures))
            | then-len-ge-EVENT_LIMIT-via-else-len-ge-EVENT_LIMIT+then-next_line-gt-LINE_LIMIT w ↦
                let at = ap (λ (k : ℕ). (lane_or_new base.lanes k).next) (ap (λ e. e.cpu) c.event.view_is) in
                insert-high base c.args.event (omega (arith, w.next_line.ensures, at))
          ]),
    )

pub invariant_of-self : goal.invariant_of-self
invariant_of-self c = rw (c.in_default.ensures.err) c.self.invariant

pub invariant_of-self-2 : goal.invariant_of-self-2
invariant_of-self-2 c =
    let base = the_view c.self.inside in
    let at = ap (λ (k : ℕ). (lane_or_new base.lanes k).next) (ap (λ e. e.cpu) c.event.view_is) in
    rw (c.in-Ok.ensures.ok) (insert-IsReachable base c.args.event c.self.invariant (subst HasCpu c.event.view_is c.event.invariant.1) (omega (arith, c.len.ensures)) (omega (arith, c.next_line.ensures, at)))

pub returns-clause-gives : goal.returns-clause-gives
returns-clause-gives c =
    let base = the_view c.self.inside in
    let cpu : c.event.inside.cpu ≡ c.args.event.cpu = ap (λ e. e.cpu) c.event.view_is in
    let at = ap (λ (k : ℕ). (lane_or_new base.lanes k).next) cpu in
    let few : held_in base.lanes < event_limit = omega (arith, c.len.ensures) in
    let low : (lane_or_new base.lanes c.args.event.cpu).next ≤ number_limit = omega (arith, c.next_line.ensures, at) in
    let line : c.in-Ok.line ≡ (lane_or_new base.lanes c.args.event.cpu).next = c.in-Ok.ensures.line in
    ap (λ b. after_insert b c.args.event) (sym c.self.view_is) ∙ insert-ok base c.args.event few low ∙ (λ i. Ok (record base { lanes = sym c.in-Ok.ensures.ok i }, record { cpu = sym cpu i; line = sym line i }))
