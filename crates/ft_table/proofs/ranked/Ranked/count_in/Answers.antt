-- The first mark outside is the one that went out, if the mark came in.
use Rattle.std.proofs.Common.{◌≡◌, ℕ, ◌+◌, ◌-◌, List, nat_lt, refl, sym, ap, subst, ◌∙◌, arith, Some, None}
use Rattle.std.specs.Prelude.{slice_get}
use Rattle.std.specs.List.{Contains}
use Rattle.ft_fields.specs.declared.key.Part.{Part}
use Rattle.ft_hits.specs.declared.mark.Mark.{Mark}
use Rattle.ft_hits.specs.Hits.{hitcount}
use Rattle.ft_hits.specs.Marks.{mark_cmp}
use Rattle.ft_table.specs.inner.Ascending.{IsRank}
use Rattle.ft_table.specs.inner.Moves.{order_with}
use Rattle.ft_table.proofs.Splits.{resplit}
use Rattle.ft_table.proofs.Standings.{stands, came_full, came_room, came_outside, IsInside}
use Rattle.ft_table.proofs.ranked.Ranked.count_in.Goals as goal

pub is_inside-requires : goal.is_inside-requires
is_inside-requires c = subst (λ ms. Contains ms c.args.mark) (sym c.requires.order) (stands c.args.hits.now c.args.mark c.args.self.now.order.size)

pub overflow_sub-self : goal.overflow_sub-self
overflow_sub-self c =
    let hits = c.args.hits.now in let m = c.args.mark in let size = c.args.self.now.order.size in
    let count : List Part → ℕ = hitcount hits in
    let inside : IsInside hits m size c.is_inside.result = subst (λ ms. (i : ℕ) → IsRank mark_cmp ms m i → c.is_inside.result ≡ nat_lt i size) c.requires.order c.is_inside.ensures in
    let next : slice_get (order_with hits m) size ≡ Some c.in-Some.last = ap (λ (ms : List Mark). slice_get ms size) (sym c.requires.order) ∙ sym c.first_outside.ensures ∙ c.in-Some.is in
    let f = came_full hits m size count c.is_inside.result c.in-Some.last inside c.if-is_inside.true next c.requires.cut c.requires.few in
    let out = c.count_of-out.ensures in let into = c.requires.count in
    omega (arith, f.0, out, into)

pub overflow_add-self-in-Some : goal.overflow_add-self-in-Some
overflow_add-self-in-Some c =
    let hits = c.args.hits.now in let m = c.args.mark in let size = c.args.self.now.order.size in
    let count : List Part → ℕ = hitcount hits in
    let inside : IsInside hits m size c.is_inside.result = subst (λ ms. (i : ℕ) → IsRank mark_cmp ms m i → c.is_inside.result ≡ nat_lt i size) c.requires.order c.is_inside.ensures in
    let next : slice_get (order_with hits m) size ≡ Some c.in-Some.last = ap (λ (ms : List Mark). slice_get ms size) (sym c.requires.order) ∙ sym c.first_outside.ensures ∙ c.in-Some.is in
    let f = came_full hits m size count c.is_inside.result c.in-Some.last inside c.if-is_inside.true next c.requires.cut c.requires.few in
    let out = c.count_of-out.ensures in let into = c.requires.count in let fits = f.1.fits in
    omega (arith, f.0, fits, out, into)

pub returns-in-Some-clause-cut : goal.returns-in-Some-clause-cut
returns-in-Some-clause-cut c =
    let hits = c.args.hits.now in let m = c.args.mark in let size = c.args.self.now.order.size in
    let count : List Part → ℕ = hitcount hits in
    let inside : IsInside hits m size c.is_inside.result = subst (λ ms. (i : ℕ) → IsRank mark_cmp ms m i → c.is_inside.result ≡ nat_lt i size) c.requires.order c.is_inside.ensures in
    let next : slice_get (order_with hits m) size ≡ Some c.in-Some.last = ap (λ (ms : List Mark). slice_get ms size) (sym c.requires.order) ∙ sym c.first_outside.ensures ∙ c.in-Some.is in
    let f = came_full hits m size count c.is_inside.result c.in-Some.last inside c.if-is_inside.true next c.requires.cut c.requires.few in
    resplit count f.1 refl c.requires.order (λ i. c.args.self.now.hits + c.requires.count i - c.count_of-out.ensures i) (ap (λ n. c.args.self.now.dropped + n) c.count_of-out.ensures)

pub returns-in-None-clause-cut : goal.returns-in-None-clause-cut
returns-in-None-clause-cut c =
    let hits = c.args.hits.now in let m = c.args.mark in let size = c.args.self.now.order.size in
    let inside : IsInside hits m size c.is_inside.result = subst (λ ms. (i : ℕ) → IsRank mark_cmp ms m i → c.is_inside.result ≡ nat_lt i size) c.requires.order c.is_inside.ensures in
    let next : slice_get (order_with hits m) size ≡ None = ap (λ (ms : List Mark). slice_get ms size) (sym c.requires.order) ∙ sym c.first_outside.ensures ∙ c.in-None.is in
    resplit (hitcount hits) (came_room hits m size (hitcount hits) c.is_inside.result inside c.if-is_inside.true next c.requires.cut c.requires.few) refl c.requires.order (ap (λ n. c.args.self.now.hits + n) c.requires.count) refl

pub returns-else-is_inside-clause-cut : goal.returns-else-is_inside-clause-cut
returns-else-is_inside-clause-cut c =
    let hits = c.args.hits.now in let m = c.args.mark in let size = c.args.self.now.order.size in
    let inside : IsInside hits m size c.is_inside.result = subst (λ ms. (i : ℕ) → IsRank mark_cmp ms m i → c.is_inside.result ≡ nat_lt i size) c.requires.order c.is_inside.ensures in
    resplit (hitcount hits) (came_outside hits m size (hitcount hits) c.is_inside.result inside c.if-is_inside.false c.requires.cut c.requires.few) refl c.requires.order refl (ap (λ n. c.args.self.now.dropped + n) c.requires.count)
