use Rattle.std.proofs.Common.{sym, ◌∙◌, ◌-◌, length, drop, arith}
use Rattle.std.proofs.lemmas.List.{take_all, length-drop}
use Rattle.ft_head.proofs.DraftLemmas.{stamp_since}
use Rattle.ft_head.proofs.draft.stamp_of.Goals as goal

pub returns-then-starts_with : goal.returns-then-starts_with
returns-then-starts_with c =
    let value = c.args.value.now in
    let left = length-drop 24 value in
    let whole = take_all (length value - 24) (drop 24 value) (omega arith) in
    c.since.ensures ∙ sym (stamp_since value _ whole (sym c.is_same.ensures ∙ c.if-is_same.false) (sym c.starts_with.ensures.value ∙ c.if-starts_with.true))
