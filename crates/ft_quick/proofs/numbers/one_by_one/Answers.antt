use Rattle.std.proofs.Common.{◌≡◌, ◌-◌, ℕ, arith, subst, drop}
use Rattle.ft_quick.specs.inner.Cuts.{IsNumbered}
use Rattle.ft_quick.proofs.Runs.{has_room}
use Rattle.ft_quick.proofs.Places.{no_digit_yet, next_digit_at, numbered_at}
use Rattle.ft_quick.proofs.numbers.one_by_one.Goals as goal

pub loop-at-init : goal.loop-at-init
loop-at-init c = no_digit_yet (drop c.args.from c.args.line.now) c.args.from

pub loop-at-preserved : goal.loop-at-preserved
loop-at-preserved c = rw c.from.ensures (next_digit_at c.args.line.now c.args.from c.loop-at.at c.loop-at.number c.loop-at.auto.at (omega arith) (c.requires.digits c.loop-at.at (omega arith) (omega arith)) c.loop-at.invariant)

pub overflow_mul-number : goal.overflow_mul-number
overflow_mul-number c = let room = has_room (drop c.args.from c.args.line.now) (c.loop-at.at - c.args.from) c.loop-at.number (omega arith) c.loop-at.invariant in omega arith

pub overflow_add-number : goal.overflow_add-number
overflow_add-number c =
    let room = has_room (drop c.args.from c.args.line.now) (c.loop-at.at - c.args.from) c.loop-at.number (omega arith) c.loop-at.invariant in
    let byte = c.type_inv.line c.loop-at.at in
    omega arith

pub returns : goal.returns
returns c =
    let same : c.loop-at.at ≡ c.args.end = omega arith in
    let whole = numbered_at c.args.line.now c.args.from c.loop-at.at c.loop-at.number c.loop-at.auto.at (λ none. omega arith) (omega arith) (omega arith) c.loop-at.invariant in
    subst (λ (k : ℕ). IsNumbered (drop c.args.from c.args.line.now) c.loop-at.number (drop k c.args.line.now)) same whole
