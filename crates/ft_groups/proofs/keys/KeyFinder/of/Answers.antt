-- Without a filter and keys of texts, an event's numbers tell its key, and so does the number of the only key item.
use Rattle.std.proofs.Common.{sym, ap, ◌∙◌}
use Rattle.std.specs.List.{list_any}
use Rattle.std.proofs.lemmas.Option.{none-some}
use Rattle.ft_groups.specs.inner.Finding.{is_text_item}
use Rattle.ft_groups.proofs.Bare.{bare_hit, no_filter, number_hit}
use Rattle.ft_groups.proofs.keys.KeyFinder.of.Goals as goal

pub returns-in-Some-clause-finds : goal.returns-in-Some-clause-finds
returns-in-Some-clause-finds c =
    let hist = c.args.trigger.now in
    let unfiltered = no_filter _ c.filter.result hist.filter c.filter.ensures (sym c.is_some.ensures ∙ c.if-is_some.false) in
    let told = number_hit hist unfiltered c.keys-keys.result.now c.keys-keys.ensures.value c.in-Some.key.now (sym c.in-Some.ensures.value) c.if-keys-eq1.true in
    record {
      bare = λ _. bare_hit hist unfiltered (ap (list_any is_text_item) (sym c.keys-keys.ensures.value) ∙ sym c.has_text.ensures ∙ c.if-has_text.false);
      number = λ a b number by_a by_b. told a number by_a ∙ sym (told b number by_b);
    }

pub returns-in_default-clause-finds : goal.returns-in_default-clause-finds
returns-in_default-clause-finds c = record {
  bare = λ _. bare_hit c.args.trigger.now (no_filter _ c.filter.result c.args.trigger.now.filter c.filter.ensures (sym c.is_some.ensures ∙ c.if-is_some.false))
      (ap (list_any is_text_item) (sym c.keys-keys.ensures.value) ∙ sym c.has_text.ensures ∙ c.if-has_text.false);
  number = λ a b number by_a by_b. absurd (none-some number by_a);
}
