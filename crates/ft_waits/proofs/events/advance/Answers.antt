use Rattle.std.proofs.Common.{subst, sym, ◌++◌, ◌≡◌, ℕ, arith, ◌∙◌, true, false, rules}
use Rattle.std.proofs.lemmas.Bool.{ltb-true, ltb-false}
use Rattle.ft_waits.specs.inner.Known.{Orders}
use Rattle.ft_waits.proofs.Ordering.{settled}
use Rattle.ft_waits.proofs.events.advance.Goals as goal

pub returns-in_ok-settle-clause-orders : goal.returns-in_ok-settle-clause-orders
returns-in_ok-settle-clause-orders c = λ latest stamp fits is events entries told orders.
    let hit : c.args.is_later ≡ true = search rules in
    let later = ltb-true latest stamp (sym is ∙ hit) in
    settled c.args.acts.now c.settle.new.acts c.args.sums.now c.settle.new.sums latest stamp events entries told c.args.out.now.items c.settle.new.out.items (omega (arith, later)) c.in_ok-settle.ensures orders

pub returns-else-is_later-clause-orders : goal.returns-else-is_later-clause-orders
returns-else-is_later-clause-orders c = λ latest stamp fits is events entries told orders.
    let missed : c.args.is_later ≡ false = search rules in
    let later = ltb-false latest stamp (sym is ∙ missed) in
    let same : latest ≡ stamp = omega (arith, later, fits) in
    subst (λ (at : ℕ). Orders c.args.acts.now c.args.sums.now at events entries (told ++ c.args.out.now.items)) same orders
