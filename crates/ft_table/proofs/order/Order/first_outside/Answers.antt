-- The first mark outside stands after the last one inside.
use Rattle.std.proofs.Common.{◌≡◌, ◌-◌, ◌+◌, List, ap, subst, ◌∙◌, arith, Some}
use Rattle.std.specs.Prelude.{slice_get}
use Rattle.std.specs.Map.{keys_of}
use Rattle.ft_hits.specs.declared.mark.Mark.{Mark}
use Rattle.ft_hits.specs.Marks.{mark_cmp_total}
use Rattle.ft_table.specs.inner.Ordered.{Ordered, IsEdged}
use Rattle.ft_table.proofs.AtEdge.{edge_at, rank_at, not_full}
use Rattle.ft_table.proofs.Orders.{rises_in}
use Rattle.ft_table.proofs.order.Order.first_outside.Goals as goal

pub returns-in-Some : goal.returns-in-Some
returns-in-Some c =
    let o = c.self.inside in
    let ks : List Mark = keys_of o.marks in
    let edged : IsEdged o.size ks o.front.count (Some c.in-Some.last) = subst (λ l. IsEdged o.size ks o.front.count l) c.in-Some.is c.self.invariant.front in
    let e = edge_at edged in
    let count = edged.count in let first = e.0 in let full = c.if-self.false in
    let place : o.front.count - 1 + 1 ≡ o.size = omega (arith, count, first, full) in
    c.after.ensures.there (o.front.count - 1) (rank_at ks c.in-Some.last (o.front.count - 1) (rises_in mark_cmp_total o.marks c.self.invariant.ascend) e.1.0 e.1.1) (o.front.count - 1, e.1.0, e.1.1 c.in-Some.last)
    ∙ ap (slice_get ks) place ∙ ap (λ (o : Ordered). slice_get o.marks o.size) c.self.view_is

pub returns-in-None : goal.returns-in-None
returns-in-None c =
    let o = c.self.inside in
    let ks : List Mark = keys_of o.marks in
    let full = c.if-self.false in
    absurd (not_full o.size ks o.front.count (subst (λ l. IsEdged o.size ks o.front.count l) c.in-None.is c.self.invariant.front) (λ lt. omega (arith, lt, full)))
