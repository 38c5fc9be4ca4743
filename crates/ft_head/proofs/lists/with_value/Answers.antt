use Rattle.std.proofs.Common.{subst, sym, ◌∙◌, inr, false, true}
use Rattle.ft_head.specs.inner.Leaving.{Leaves}
use Rattle.ft_head.proofs.WordLemmas.{value_refused, value_new}
use Rattle.ft_head.proofs.lists.with_value.Goals as goal

pub returns-in-Some-clause-leaves : goal.returns-in-Some-clause-leaves
returns-in-Some-clause-leaves c =
    inr (value_refused c.args.event c.args.words.now.items c.deref.result.now c.args.place c.args.word c.word_fault.result c.in-Some.fault c.deref.ensures.value (sym c.is_one_too_many.ensures ∙ c.if-is_one_too_many.false) c.word_fault.ensures c.in-Some.is)

pub returns-then-has_word-clause-leaves : goal.returns-then-has_word-clause-leaves
returns-then-has_word-clause-leaves c =
    inr (value_new c.args.event c.args.words.now.items c.deref.result.now c.deref-2.result.now c.args.place c.args.word c.word_fault.result true c.deref.ensures.value (sym c.is_one_too_many.ensures ∙ c.if-is_one_too_many.false) c.word_fault.ensures c.in_default.is c.deref-2.ensures.value (sym c.has_word.ensures ∙ c.if-has_word.true))

pub returns-clause-leaves : goal.returns-clause-leaves
returns-clause-leaves c =
    let new = value_new c.args.event c.args.words.now.items c.deref.result.now c.deref-2.result.now c.args.place c.args.word c.word_fault.result false c.deref.ensures.value (sym c.is_one_too_many.ensures ∙ c.if-is_one_too_many.false) c.word_fault.ensures c.in_default.is c.deref-2.ensures.value (sym c.has_word.ensures ∙ c.if-has_word.false) in
    subst (λ answer. Leaves answer c.keep.new.list.items c.keep.result) (sym new) c.keep.ensures
