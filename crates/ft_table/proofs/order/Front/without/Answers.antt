use Rattle.std.proofs.Common.{◌≡◌, true, false, sym, subst, ◌∙◌, Some}
use Rattle.std.specs.Ordering.{is_lt}
use Rattle.ft_blocks.proofs.Cuts.{is_less, not_less}
use Rattle.ft_hits.specs.Marks.{mark_cmp}
use Rattle.ft_table.specs.inner.Ordered.{IsEdged}
use Rattle.ft_table.proofs.AtEdge.{goes_behind_edge, not_empty}
use Rattle.ft_table.proofs.order.Front.without.Goals as goal

pub returns-then-is_before : goal.returns-then-is_before
returns-then-is_before c size old i gone is =
    let count = c.args.self.now.count in
    let less : is_lt (mark_cmp c.in-Some.last c.args.mark.now) ≡ true = sym c.is_before.ensures ∙ c.if-is_before.true in
    let edged : IsEdged size old count (Some c.in-Some.last) = subst (λ o. IsEdged size old count o) c.in-Some.is is in
    subst (λ ms. IsEdged size ms count (Some c.in-Some.last)) (sym gone.is)
    (goes_behind_edge size old count c.args.mark.now i gone.rank c.in-Some.last edged gone.rises gone.has (is_less _ less))

pub returns-in-None : goal.returns-in-None
returns-in-None c size old i gone is = absurd (not_empty size old c.args.self.now.count c.args.mark.now (subst (λ o. IsEdged size old c.args.self.now.count o) c.in-None.is is) gone.has)

pub returns-else-is_before : goal.returns-else-is_before
returns-else-is_before c size old i gone is =
    let count = c.args.self.now.count in
    let ne : is_lt (mark_cmp c.in-Some.last c.args.mark.now) ≡ false = sym c.is_before.ensures ∙ c.if-is_before.false in
    c.front_without.ensures size old i gone (not_less _ ne) (subst (λ o. IsEdged size old count o) c.in-Some.is is)
