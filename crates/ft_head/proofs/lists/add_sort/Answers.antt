use Rattle.std.proofs.Common.{subst, sym, ap, ◌∙◌}
use Rattle.ft_hist.specs.declared.fault.TriggerFault.TheVariants.{Syntax}
use Rattle.ft_text.specs.Items.{word_of}
use Rattle.ft_head.specs.Draft.{given_or, with_sort}
use Rattle.ft_head.specs.inner.Leaving.{Leaves}
use Rattle.ft_head.proofs.lists.add_sort.Goals as goal

pub returns-in-Some-clause-leaves : goal.returns-in-Some-clause-leaves
returns-in-Some-clause-leaves c =
    let place = c.args.item.now.place in
    let words = c.args.words.now.items in
    let found = sym c.in-Some.is ∙ c.word_of.ensures ∙ ap word_of c.bytes.ensures in
    subst (λ word. Leaves (given_or (Syntax place) word (with_sort words place)) c.with_sort.new.words.items c.with_sort.result) found (c.with_sort.ensures.leaves place)
