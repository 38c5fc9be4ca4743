use Rattle.std.proofs.Common.{◌<◌, List, length, subst, ap, ◌∙◌, cond, rules, sym, w32}
use Rattle.std.proofs.lemmas.Result.{on_ok_weaker}
use Rattle.std.proofs.lemmas.Int.{to_z-of_z}
use Rattle.std.specs.Ordering.{int_eq}
use Rattle.ft_pids.specs.Numbers.{number_of}
use Rattle.ft_dispatch.specs.Telling.{known, unknown}
use Rattle.ft_dispatch.specs.inner.Changes.{changed}
use Rattle.ft_dispatch.specs.declared.tasks.Entry.{Entry}
use Rattle.ft_dispatch.proofs.Written.{changed-in, was-said, not-said, pick}
use Rattle.ft_dispatch.proofs.tasks.set.Goals as goal

pub returns-then-is_of : goal.returns-then-is_of
returns-then-is_of c = λ q.
    let old = c.args.tasks.now in
    let number = number_of old.numbers in
    let entries = old.entries.items in
    let n = c.get-number.result in
    let was = c.index_mut.result.now in
    changed-in number entries c.args.pid q n was c.set.new.self (search rules) (search rules) (subst (λ (es : List Entry). c.get-number.result < length es) c.deref.ensures.value (c.is_of.ensures.within c.if-is_of.true)) c.index_mut.ensures.value
    ∙ pick (int_eq c.args.pid q) c.set.new.self (changed c.args.change (known old q)) (known old q)
    (λ hit. c.set.ensures ∙ ap (changed c.args.change) (was-said number entries c.args.pid q n was (search rules) (search rules) (subst (λ (es : List Entry). c.get-number.result < length es) c.deref.ensures.value (c.is_of.ensures.within c.if-is_of.true)) c.index_mut.ensures.value hit))

pub returns-else-is_of : goal.returns-else-is_of
returns-else-is_of c =
    let old = c.args.tasks.now in
    on_ok_weaker c.add.result (λ add. λ q.
    add q ∙ ap (λ p. cond (int_eq p q) c.set-else-is_of.new.self (known old q)) (to_z-of_z w32 c.args.pid c.ranges.pid)
    ∙ ap (λ s. cond (int_eq c.args.pid q) s (known old q)) (c.set-else-is_of.ensures ∙ ap (changed c.args.change) c.unknown-since.ensures)
    ∙ pick (int_eq c.args.pid q) (changed c.args.change unknown) (changed c.args.change (known old q)) (known old q)
    (λ hit. ap (changed c.args.change) (sym (not-said (number_of old.numbers) old.entries.items c.args.pid q c.get-number.result (search rules) (search rules) hit)))) c.add.ensures
