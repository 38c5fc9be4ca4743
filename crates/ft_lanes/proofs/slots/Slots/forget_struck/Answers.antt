-- What stays is what was held.
use Rattle.std.proofs.Common.{◌≡◌, sym, ap, ◌∙◌, subst, rules}
use Rattle.std.proofs.lemmas.List.Elements.{filter_from_retain}
use Rattle.ft_lanes.specs.inner.Slots.{slots_of}
use Rattle.ft_lanes.specs.inner.Rows.{is_held, held_rows, AreRows}
use Rattle.ft_lanes.proofs.RowLines.{held-held, rows-held}
use Rattle.ft_lanes.proofs.slots.Slots.forget_struck.Goals as goal

pub invariant_of-self : goal.invariant_of-self
invariant_of-self c =
    let rows = c.self.inside.rows.items in
    let kept : c.retain.new.self.items ≡ held_rows rows = filter_from_retain _ (λ row. is_held row.1) (λ f row b q k. search rules) _ _ _ c.retain.ensures.filtered in
    subst (AreRows 0 c.self.inside.next) (sym kept) (rows-held c.self.inside.struck c.self.inside.next rows c.self.invariant)

pub returns-then-self-len : goal.returns-then-self-len
returns-then-self-len c =
    let kept : c.retain.new.self.items ≡ held_rows c.self.inside.rows.items = filter_from_retain _ (λ row. is_held row.1) (λ f row b q k. search rules) _ _ _ c.retain.ensures.filtered in
    ap (λ rows. slots_of (held_rows rows) c.self.inside.next) kept
    ∙ ap (λ rows. slots_of rows c.self.inside.next) (held-held c.self.inside.rows.items)
    ∙ c.self.view_is
