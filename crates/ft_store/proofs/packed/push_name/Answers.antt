-- What follows the name is cut off.
use Rattle.std.proofs.Common.{rules, arith, ◌+◌, take, ap, ◌∙◌}
use Rattle.ft_fields.specs.Borrowed.{name_bytes}
use Rattle.ft_store.proofs.Names.{added_in_one_step}
use Rattle.ft_store.proofs.packed.push_name.Goals as goal

pub returns-in-Some-clause-ok : goal.returns-in-Some-clause-ok
returns-in-Some-clause-ok c =
    c.truncate.ensures.items
    ∙ ap (take (c.len-begins.result + c.len-len.result)) c.in_ok-extend_from_slice.ensures.items
    ∙ added_in_one_step c.args.text.now.items c.text.result.now c.in-Some.chunk.now (name_bytes c.args.name.now) c.len-begins.result c.len-len.result (search rules)
    c.in-Some.ensures.cases.same (omega (arith, c.if-len-le16.true)) c.len-len.ensures.value c.text.ensures.begins
