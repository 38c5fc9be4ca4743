-- The next mark comes into the front, if there is one; else the front is shorter.
use Rattle.std.proofs.Common.{◌≡◌, ℕ, ◌-◌, ◌+◌, List, refl, sym, ap, subst, ◌∙◌, Some, None, Option}
use Rattle.std.specs.Prelude.{slice_get}
use Rattle.std.specs.List.{Contains, remove}
use Rattle.std.specs.Map.{keys_of}
use Rattle.std.specs.declared.cmp.Ordering.TheVariants.{Less, Equal, Greater}
use Rattle.std.specs.Ordering.{ordering_reverse}
use Rattle.ft_blocks.proofs.Cuts.{is_less, not_less}
use Rattle.ft_table.proofs.Sorted.{not_before_itself}
use Rattle.ft_hits.specs.declared.mark.Mark.{Mark}
use Rattle.ft_hits.specs.Marks.{mark_cmp, mark_cmp_total, mark_same}
use Rattle.ft_table.specs.inner.Ascending.{Rises, IsRank}
use Rattle.ft_table.specs.inner.Ordered.{HasGone, IsEdged, Lacks, place_before}
use Rattle.ft_table.proofs.AtEdge.{next_place, next_comes_in, edge_goes, edge_stays}
use Rattle.ft_table.proofs.order.front_without.Goals as goal

tied : (a b : Mark) → (mark_cmp a b ≡ Less → ⊥) → (mark_cmp b a ≡ Less → ⊥) → a ≡ b
tied a b ne nor =
    elim (mark_cmp a b) as (λ o. mark_cmp a b ≡ o → a ≡ b) [
      | Less ↦ λ is. absurd (ne is)
      | Equal ↦ λ is. mark_same a b is
      | Greater ↦ λ is. absurd (nor (mark_cmp_total.antisymm b a ∙ ap ordering_reverse is))
    ] refl

next_found : (size : ℕ) (old new : List Mark) (count : ℕ) (last m : Mark) (i : ℕ) (next : Option Mark) → HasGone m old i new → (mark_cmp last m ≡ Less → ⊥) → IsEdged size old count (Some last)
    → ((r : ℕ) → IsRank mark_cmp new last r → Contains new last → next ≡ slice_get new (r + 1))
    → ((r : ℕ) → IsRank mark_cmp new last r → Lacks new last → next ≡ slice_get new r)
    → next ≡ slice_get (remove old i) (count - 1)
next_found size old new count last m i next gone ne is there lacking =
    next_place size old count m i gone.rank last is gone.rises gone.has (subst (λ ms. Rises mark_cmp ms) gone.is gone.rise) ne next
    (subst (λ ms. (r : ℕ) → IsRank mark_cmp ms last r → Contains ms last → next ≡ slice_get ms (r + 1)) gone.is there)
    (subst (λ ms. (r : ℕ) → IsRank mark_cmp ms last r → Lacks ms last → next ≡ slice_get ms r) gone.is lacking)

pub returns-in-Some : goal.returns-in-Some
returns-in-Some c size old i gone ne is =
    let m = c.args.mark.now in let last = c.args.last.now in let count = c.args.count in
    let found = next_found size old (keys_of c.args.marks.now) count last m i c.after.result gone ne is c.after.ensures.there c.after.ensures.gone in
    subst (λ ms. IsEdged size ms count (Some c.in-Some.next)) (sym gone.is)
    (next_comes_in size old count m i gone.rank last is gone.rises gone.has ne c.in-Some.next (sym c.in-Some.is ∙ found))

pub returns-else-is_before : goal.returns-else-is_before
returns-else-is_before c size old i gone ne is =
    let m = c.args.mark.now in let last = c.args.last.now in let count = c.args.count in
    let none : None ≡ slice_get (remove old i) (count - 1) = sym c.in-None.is ∙ next_found size old (keys_of c.args.marks.now) count last m i c.after.result gone ne is c.after.ensures.there c.after.ensures.gone in
    let same : last ≡ m = tied last m ne (not_less _ (sym c.is_before.ensures ∙ c.if-is_before.false)) in
    let less : c.saturating_sub-in-None.result ≡ count - 1 = c.saturating_sub-in-None.ensures in
    subst (λ ms. IsEdged size ms c.saturating_sub-in-None.result c.before-in-None.result) (sym gone.is)
    (subst (λ n. IsEdged size (remove old i) n c.before-in-None.result) (sym less)
    (edge_goes size old count m i gone.rank last is gone.rises gone.has same (subst (λ ms. Rises mark_cmp ms) gone.is gone.rise) none c.before-in-None.result
    (subst (λ ms. (r : ℕ) → IsRank mark_cmp ms m r → c.before-in-None.result ≡ place_before ms r) gone.is c.before-in-None.ensures)))

pub returns-then-is_before : goal.returns-then-is_before
returns-then-is_before c size old i gone ne is =
    let m = c.args.mark.now in let last = c.args.last.now in let count = c.args.count in
    let none : None ≡ slice_get (remove old i) (count - 1) = sym c.in-None.is ∙ next_found size old (keys_of c.args.marks.now) count last m i c.after.result gone ne is c.after.ensures.there c.after.ensures.gone in
    let other : last ≡ m → ⊥ = (λ same. not_before_itself mark_cmp_total m (subst (λ q. mark_cmp m q ≡ Less) same (is_less _ (sym c.is_before.ensures ∙ c.if-is_before.true)))) in
    let less : c.saturating_sub.result ≡ count - 1 = c.saturating_sub.ensures in
    subst (λ ms. IsEdged size ms c.saturating_sub.result (Some last)) (sym gone.is)
    (subst (λ n. IsEdged size (remove old i) n (Some last)) (sym less)
    (edge_stays size old count m i gone.rank last is gone.rises gone.has other ne none))
