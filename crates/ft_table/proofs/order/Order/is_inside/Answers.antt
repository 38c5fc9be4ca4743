-- A mark is in the table exactly if the last one that is in doesn't stand before it.
use Rattle.std.proofs.Common.{◌≡◌, ℕ, ◌-◌, ◌<◌, ◌≤◌, List, Bool, true, false, not, refl, sym, ap, subst, ◌∙◌, arith, nat_lt, Some, inl, inr}
use Rattle.std.proofs.lemmas.Bool.{cases_lt}
use Rattle.std.proofs.lemmas.Bool.Decides.{nat_tests}
use Rattle.std.specs.List.{Contains}
use Rattle.std.specs.Map.{keys_of}
use Rattle.std.specs.Ordering.{is_lt}
use Rattle.std.specs.declared.cmp.Ordering.TheVariants.{Less}
use Rattle.ft_hits.specs.declared.mark.Mark.{Mark}
use Rattle.ft_hits.specs.Marks.{mark_cmp, mark_cmp_total}
use Rattle.ft_table.specs.inner.Ascending.{Rises, IsRank}
use Rattle.ft_table.specs.inner.Ordered.{Ordered, IsEdged}
use Rattle.ft_blocks.proofs.Cuts.{is_less, not_less}
use Rattle.ft_table.proofs.AtEdge.{at_rank, edge_at, rank_gt, not_empty}
use Rattle.ft_table.proofs.Orders.{rises_in}
use Rattle.ft_table.proofs.order.Order.is_inside.Goals as goal

inside_by : (size : ℕ) (ks : List Mark) (count : ℕ) (last m : Mark) (i : ℕ) → Rises mark_cmp ks → IsEdged size ks count (Some last) → Contains ks m → IsRank mark_cmp ks m i → (b : Bool) → is_lt (mark_cmp last m) ≡ b → not b ≡ nat_lt i size
inside_by size ks count last m i rises is has at true less =
    let e = edge_at is in let here = at_rank ks m i rises has at in
    let lt : count - 1 < i = rank_gt ks m i (count - 1) at e.1.0 (subst (λ q. mark_cmp q m ≡ Less) (sym (e.1.1 m)) (is_less _ less)) in
    let count_is = is.count in let first = e.0 in let within = here.0 in
    let out : size ≤ i = omega (arith, count_is, lt, within, first) in
    grind (arith, nat_tests, out)
inside_by size ks count last m i rises is has at false ne =
    let e = edge_at is in
    let le : i ≤ count - 1 = (elim (cases_lt (count - 1) i) [
      | inl lt ↦ absurd (not_less _ ne (subst (λ q. mark_cmp q m ≡ Less) (e.1.1 m) (at.below (count - 1) m lt)))
      | inr le ↦ le
    ]) in
    let count_is = is.count in let first = e.0 in
    let inside : i < size = omega (arith, count_is, le, first) in
    grind (arith, nat_tests, inside)

pub returns-in-Some : goal.returns-in-Some
returns-in-Some c i at =
    let o = c.self.inside in
    let view : keys_of o.marks ≡ c.args.self.now.marks = ap (λ (o : Ordered). o.marks) c.self.view_is in
    let size : o.size ≡ c.args.self.now.size = ap (λ (o : Ordered). o.size) c.self.view_is in
    let edged : IsEdged o.size (keys_of o.marks) o.front.count (Some c.in-Some.last) = subst (λ l. IsEdged o.size (keys_of o.marks) o.front.count l) c.in-Some.is c.self.invariant.front in
    ap not c.is_before.ensures ∙ inside_by o.size (keys_of o.marks) o.front.count c.in-Some.last c.args.mark.now i (rises_in mark_cmp_total o.marks c.self.invariant.ascend) edged
    (subst (λ ms. Contains ms c.args.mark.now) (sym view) c.requires) (subst (λ ms. IsRank mark_cmp ms c.args.mark.now i) (sym view) at) _ refl
    ∙ ap (nat_lt i) size

pub returns-in-None : goal.returns-in-None
returns-in-None c i at =
    let o = c.self.inside in
    let view : keys_of o.marks ≡ c.args.self.now.marks = ap (λ (o : Ordered). o.marks) c.self.view_is in
    absurd (not_empty o.size (keys_of o.marks) o.front.count c.args.mark.now (subst (λ l. IsEdged o.size (keys_of o.marks) o.front.count l) c.in-None.is c.self.invariant.front) (subst (λ ms. Contains ms c.args.mark.now) (sym view) c.requires))
