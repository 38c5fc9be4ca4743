use Rattle.std.proofs.Common.{◌<◌, List, length, subst, sym, ap, ◌∙◌, cond, rules, ◌||◌, nat_lt, ℤ, Some}
use Rattle.std.proofs.Math.Bool.{or-false}
use Rattle.std.proofs.lemmas.Int.{to_z-of_z}
use Rattle.std.proofs.Common.{w32}
use Rattle.std.proofs.lemmas.Result.{on_ok_weaker}
use Rattle.std.specs.Ordering.{int_eq}
use Rattle.ft_pids.specs.Numbers.{number_of}
use Rattle.ft_windows.specs.Telling.{named_in, begins_before, ends_after}
use Rattle.ft_windows.specs.declared.naming.Entry.{Entry}
use Rattle.ft_windows.proofs.Noting.{changed-in, was-named, not-named, before-put, after-put}
use Rattle.ft_windows.proofs.naming.note.Goals as goal

pub returns-then-is_of-clause-before : goal.returns-then-is_of-clause-before
returns-then-is_of-clause-before c = λ q stamp.
    let old = c.args.tasks.now in
    let number = number_of old.numbers in
    let entries = old.entries.items in
    let n = c.get-number.result in
    let within = subst (λ (es : List Entry). n < length es) c.deref.ensures.value (c.is_of.ensures.within c.if-is_of.true) in
    ap (λ o. begins_before o stamp) (changed-in number entries c.args.pid q n c.index_mut.result.now c.both.result (search rules) (search rules) within c.index_mut.ensures.value)
    ∙ before-put (int_eq c.args.pid q) c.both.result (named_in old q) c.args.named.first stamp
    (λ hit. c.both.ensures.before stamp ∙ ap (λ o. nat_lt c.args.named.first stamp || begins_before o stamp)
    (was-named number entries c.args.pid q n c.index.result.now (search rules) (search rules) within c.index.ensures hit))

pub returns-else-is_of-clause-before : goal.returns-else-is_of-clause-before
returns-else-is_of-clause-before c =
    let old = c.args.tasks.now in
    on_ok_weaker c.add.result (λ add. λ q stamp.
    ap (λ o. begins_before o stamp) (add q ∙ ap (λ (p : ℤ). cond (int_eq p q) (Some c.args.named) (named_in old q)) (to_z-of_z w32 c.args.pid c.ranges.pid))
    ∙ before-put (int_eq c.args.pid q) c.args.named (named_in old q) c.args.named.first stamp
    (λ hit. sym (ap (λ o. nat_lt c.args.named.first stamp || begins_before o stamp) (not-named (number_of old.numbers) old.entries.items c.args.pid q c.get-number.result (search rules) (search rules) hit) ∙ or-false (nat_lt c.args.named.first stamp)))) c.add.ensures

pub returns-then-is_of-clause-after : goal.returns-then-is_of-clause-after
returns-then-is_of-clause-after c = λ q stamp.
    let old = c.args.tasks.now in
    let number = number_of old.numbers in
    let entries = old.entries.items in
    let n = c.get-number.result in
    let within = subst (λ (es : List Entry). n < length es) c.deref.ensures.value (c.is_of.ensures.within c.if-is_of.true) in
    ap (λ o. ends_after o stamp) (changed-in number entries c.args.pid q n c.index_mut.result.now c.both.result (search rules) (search rules) within c.index_mut.ensures.value)
    ∙ after-put (int_eq c.args.pid q) c.both.result (named_in old q) c.args.named.last stamp
    (λ hit. c.both.ensures.after stamp ∙ ap (λ o. nat_lt stamp c.args.named.last || ends_after o stamp)
    (was-named number entries c.args.pid q n c.index.result.now (search rules) (search rules) within c.index.ensures hit))

pub returns-else-is_of-clause-after : goal.returns-else-is_of-clause-after
returns-else-is_of-clause-after c =
    let old = c.args.tasks.now in
    on_ok_weaker c.add.result (λ add. λ q stamp.
    ap (λ o. ends_after o stamp) (add q ∙ ap (λ (p : ℤ). cond (int_eq p q) (Some c.args.named) (named_in old q)) (to_z-of_z w32 c.args.pid c.ranges.pid))
    ∙ after-put (int_eq c.args.pid q) c.args.named (named_in old q) c.args.named.last stamp
    (λ hit. sym (ap (λ o. nat_lt stamp c.args.named.last || ends_after o stamp) (not-named (number_of old.numbers) old.entries.items c.args.pid q c.get-number.result (search rules) (search rules) hit) ∙ or-false (nat_lt stamp c.args.named.last)))) c.add.ensures
