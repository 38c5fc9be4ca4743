-- A mark that moves across the last one of a front has the next one come in.
use Rattle.std.proofs.Common.{◌≡◌, ℕ, ◌+◌, ◌-◌, true, false, sym, subst, ◌∙◌, Some}
use Rattle.std.specs.Prelude.{slice_get}
use Rattle.std.specs.List.{Contains}
use Rattle.std.specs.Ordering.{is_lt}
use Rattle.std.specs.declared.cmp.Ordering.TheVariants.{Less}
use Rattle.ft_blocks.proofs.Cuts.{is_less, not_less}
use Rattle.ft_hits.specs.Marks.{mark_cmp}
use Rattle.ft_table.specs.inner.Ascending.{Rises, IsRank}
use Rattle.ft_table.specs.inner.Ordered.{IsEdged, Lacks}
use Rattle.ft_table.proofs.AtEdge.{below_other, edge_at, moved_behind, moved_inside, moved_across, not_empty}
use Rattle.ft_table.proofs.order.last_moved.Goals as goal

pub returns-then-is_before : goal.returns-then-is_before
returns-then-is_before c size count old i j moved is =
    let less : is_lt (mark_cmp c.in-Some.last c.args.from.now) ≡ true = sym c.is_before.ensures ∙ c.if-is_before.true in
    let edged : IsEdged size old count (Some c.in-Some.last) = subst (λ o. IsEdged size old count o) c.in-Some.is is in
    subst (λ ms. IsEdged size ms count (Some c.in-Some.last)) (sym moved.is)
    (moved_behind size old count c.args.from.now c.args.to.now i j moved.rank moved.there moved.rises moved.has moved.later c.in-Some.last edged (is_less _ less))

pub returns-then-is_before-2 : goal.returns-then-is_before-2
returns-then-is_before-2 c size count old i j moved is =
    let ne : is_lt (mark_cmp c.in-Some.last c.args.from.now) ≡ false = sym c.is_before.ensures ∙ c.if-is_before.false in
    let less : is_lt (mark_cmp c.args.to.now c.in-Some.last) ≡ true = sym c.is_before-in-Some.ensures ∙ c.if-is_before-2.true in
    let edged : IsEdged size old count (Some c.in-Some.last) = subst (λ o. IsEdged size old count o) c.in-Some.is is in
    subst (λ ms. IsEdged size ms count (Some c.in-Some.last)) (sym moved.is)
    (moved_inside size old count c.args.from.now c.args.to.now i j moved.rank moved.there moved.rises moved.has moved.later c.in-Some.last edged (not_less _ ne) (is_less _ less))

pub returns-in-None : goal.returns-in-None
returns-in-None c size count old i j moved is = absurd (not_empty size old count c.args.from.now (subst (λ o. IsEdged size old count o) c.in-None.is is) moved.has)

pub returns-else-is_before-2 : goal.returns-else-is_before-2
returns-else-is_before-2 c size count old i j moved is =
    let last = c.in-Some.last in
    let ne : is_lt (mark_cmp last c.args.from.now) ≡ false = sym c.is_before.ensures ∙ c.if-is_before.false in
    let ge : is_lt (mark_cmp c.args.to.now last) ≡ false = sym c.is_before-in-Some.ensures ∙ c.if-is_before-2.false in
    let edged : IsEdged size old count (Some last) = subst (λ o. IsEdged size old count o) c.in-Some.is is in
    let e = edge_at edged in
    let other : c.args.to.now ≡ last → ⊥ = λ same. moved.lacks (count - 1, e.1.0, e.1.1 c.args.to.now ∙ sym same) in
    let across : mark_cmp last c.args.to.now ≡ Less = below_other c.args.to.now last other (not_less _ ge) in
    subst (λ ms. IsEdged size ms count c.after.result) (sym moved.is)
    (moved_across size old count c.args.from.now c.args.to.now i j moved.rank moved.there moved.rises moved.has moved.later last edged (not_less _ ne) across (subst (λ ms. Rises mark_cmp ms) moved.is moved.rise) c.after.result
    (subst (λ ms. (r : ℕ) → IsRank mark_cmp ms last r → Contains ms last → c.after.result ≡ slice_get ms (r + 1)) moved.is c.after.ensures.there)
    (subst (λ ms. (r : ℕ) → IsRank mark_cmp ms last r → Lacks ms last → c.after.result ≡ slice_get ms r) moved.is c.after.ensures.gone))
