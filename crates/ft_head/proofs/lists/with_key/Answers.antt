use Rattle.std.proofs.Common.{subst, sym, ap, ◌∙◌, arith}
use Rattle.std.specs.List.{find}
use Rattle.ft_fields.specs.Fields.{is_field_named, all_fields}
use Rattle.ft_head.specs.Draft.{with_field}
use Rattle.ft_head.specs.inner.Leaving.{Leaves}
use Rattle.ft_head.proofs.WordLemmas.{with_key_field}
use Rattle.ft_head.proofs.lists.with_key.Goals as goal

pub returns-in-Some-clause-leaves : goal.returns-in-Some-clause-leaves
returns-in-Some-clause-leaves c =
    let keys = c.args.keys.now.items in
    let word = c.args.word.now in
    let found = ap (λ name. find (is_field_named c.args.event name) all_fields) (sym c.name.ensures) ∙ sym c.field_named.ensures.exact ∙ c.in-Some.is in
    let goes = with_key_field c.args.event keys c.args.place word c.in-Some.field (omega arith) (sym c.is_no_key.ensures ∙ c.if-is_no_key.false) found in
    subst (λ answer. Leaves answer c.with_field.new.keys.items c.with_field.result) (ap (with_field keys c.args.place c.in-Some.field) c.suffix.ensures ∙ sym goes) c.with_field.ensures.leaves
