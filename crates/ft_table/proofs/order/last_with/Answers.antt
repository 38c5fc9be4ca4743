-- A mark that comes before the last one of a full front moves that out.
use Rattle.std.proofs.Common.{◌≡◌, ℕ, true, false, sym, ap, subst, ◌∙◌, Some}
use Rattle.std.specs.Ordering.{is_lt}
use Rattle.ft_hits.specs.Marks.{mark_cmp}
use Rattle.ft_table.specs.inner.Ascending.{Rises, IsRank}
use Rattle.ft_table.specs.inner.Ordered.{IsEdged, place_before}
use Rattle.ft_blocks.proofs.Cuts.{is_less}
use Rattle.ft_table.proofs.AtEdge.{moves_edge, stays_edge, not_full}
use Rattle.ft_table.proofs.order.last_with.Goals as goal

pub returns-then-is_before : goal.returns-then-is_before
returns-then-is_before c old size count i came is full =
    let less : is_lt (mark_cmp c.args.mark.now c.in-Some.last) ≡ true = sym c.is_before.ensures ∙ c.if-is_before.true in
    let edged : IsEdged size old count (Some c.in-Some.last) = subst (λ o. IsEdged size old count o) c.in-Some.is is in
    subst (λ ms. IsEdged size ms count c.before-then-is_before.result) (sym came.is)
    (moves_edge size old count c.args.mark.now i came.rank c.in-Some.last edged came.lacks came.rises (subst (λ ms. Rises mark_cmp ms) came.is came.rise) full (is_less _ less) c.before-then-is_before.result
    (subst (λ ms. (r : ℕ) → IsRank mark_cmp ms c.in-Some.last r → c.before-then-is_before.result ≡ place_before ms r) came.is c.before-then-is_before.ensures))

pub returns-in-None : goal.returns-in-None
returns-in-None c old size count i came is full = absurd (not_full size old count (subst (λ o. IsEdged size old count o) c.in-None.is is) full)

pub returns-else-is_before : goal.returns-else-is_before
returns-else-is_before c old size count i came is full =
    let ne : is_lt (mark_cmp c.args.mark.now c.in-Some.last) ≡ false = sym c.is_before.ensures ∙ c.if-is_before.false in
    let edged : IsEdged size old count (Some c.in-Some.last) = subst (λ o. IsEdged size old count o) c.in-Some.is is in
    subst (λ ms. IsEdged size ms count (Some c.in-Some.last)) (sym came.is)
    (stays_edge size old count c.args.mark.now i came.rank c.in-Some.last edged came.lacks full (λ less. let both : true ≡ false = sym (ap is_lt less) ∙ ne in cc))
