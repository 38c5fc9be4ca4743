use Rattle.std.proofs.Common.{inl, inr, ◌≡◌, ◌∷◌, ◌+◌, drop, suc, length, sym, ap, ap₂, ◌∙◌, arith}
use Rattle.std.proofs.Math.Seq.{drop-cons}
use Rattle.std.proofs.lemmas.Result.{err_from_is_err_and}
use Rattle.std.specs.Option.{option_copied}
use Rattle.ft_head.specs.Draft.{besides_hitcount}
use Rattle.ft_trigger.specs.TriggerIs.{value_item, value_items}
use Rattle.ft_trigger.proofs.ResolveLemmas.{onto, values_step, values_stop, values_count}
use Rattle.ft_trigger.proofs.resolving.value_items.Goals as goal

pub returns-in_err-add_value-clause-gives : goal.returns-in_err-add_value-clause-gives
returns-in_err-add_value-clause-gives c =
    let own = option_copied c.args.own in
    let words = c.args.words.now in
    let i = c.loop-word.word-index in
    let word = c.word-item.result in
    let done = c.loop-word.values.items in
    let next : suc i ≡ i + 1 = omega arith in
    let at : drop i words ≡ word ∷ drop (i + 1) words = drop-cons words i word c.loop-word-test.true ∙ ap₂ (λ w k. w ∷ drop k words) (sym c.word-item.is) next in
    let whole = ap (λ ws. onto done (value_items c.args.event own (besides_hitcount ws))) (sym at) ∙ c.loop-word.invariant.same in
    let p = err_from_is_err_and c.from_residual.result c.from_residual.ensures.1 in
    rw (p.1, p.2)
    (elim c.in_err-add_value.ensures [
      | inl memory ↦ inl memory
      | inr stopped ↦ inr (sym whole ∙ values_stop c.args.event own done _ word (drop (i + 1) words) stopped)
    ])

pub loop-word-preserved : goal.loop-word-preserved
loop-word-preserved c =
    let own = option_copied c.args.own in
    let words = c.args.words.now in
    let i = c.loop-word.word-index in
    let word = c.word-item.result in
    let done = c.loop-word.values.items in
    let new = c.add_value.new.values.items in
    let next : suc i ≡ i + 1 = omega arith in
    let at : drop i words ≡ word ∷ drop (i + 1) words = drop-cons words i word c.loop-word-test.true ∙ ap₂ (λ w k. w ∷ drop k words) (sym c.word-item.is) next in
    record {
      same = values_step c.args.event own done new word (drop (i + 1) words) c.in_ok-add_value.ensures ∙ ap (λ ws. onto done (value_items c.args.event own (besides_hitcount ws))) (sym at) ∙ c.loop-word.invariant.same;
      count = values_count (value_item c.args.event own word) done new word (drop (i + 1) words) c.in_ok-add_value.ensures ∙ ap (λ ws. length done + length (besides_hitcount ws)) (sym at) ∙ c.loop-word.invariant.count;
    }
