-- The edge of an order, as a mark comes, goes or moves.
use Rattle.std.proofs.Common.{◌≡◌, ℕ, zero, suc, ◌-◌, ◌<◌, ◌≤◌, List, [], ◌∷◌, length, get_or, refl, sym, ap, subst, ◌∙◌, arith, Bool, true, false, Some, None, Option, inl, inr}
use Rattle.std.specs.Prelude.{◌+◌, min, if◌then◌else◌, slice_get}
use Rattle.std.specs.List.{Contains, insert, remove}
use Rattle.std.specs.declared.cmp.Ordering.TheVariants.{Less, Equal, Greater}
use Rattle.std.specs.Ordering.{is_lt, ordering_reverse}
use Rattle.std.proofs.lemmas.Bool.{cases_lt, cases_order}
use Rattle.std.proofs.lemmas.Cmp.{tied_itself}
use Rattle.std.proofs.lemmas.List.Edits.{length-insert, get_or-insert_below, get_or-insert_at, get_or-insert_above, length-remove, get_or-remove_below, get_or-remove_above}
use Rattle.std.proofs.lemmas.Option.{slice_get-get_or, slice_get_past, slice_get_within, get_or_from_slice_get, none-some}
use Rattle.ft_hits.specs.declared.mark.Mark.{Mark}
use Rattle.ft_hits.specs.Marks.{mark_cmp, mark_cmp_total, mark_same}
use Rattle.ft_table.specs.inner.Ascending.{Rises, IsRank}
use Rattle.ft_table.specs.inner.Ordered.{HasCome, IsEdged, Lacks, later_mark, place_before}
use Rattle.ft_blocks.proofs.Cuts.{is_less}
use Rattle.ft_table.proofs.Sorted.{rank-found, not_before_itself}

-- ---- ranks

-- a mark that is listed stands at its rank
pub at_rank : (ks : List Mark) (k : Mark) (i : ℕ) → Rises mark_cmp ks → Contains ks k → IsRank mark_cmp ks k i → (i < length ks) × ((d : Mark) → get_or ks i d ≡ k)
at_rank ks k i rises (j, lt, is) at =
    let here : (d : Mark) → get_or ks j d ≡ k = λ d. sym (slice_same ks j k d lt) ∙ is in
    elim (cases_order i j) [
      | inl same ↦ (omega (arith, same, lt), λ d. ap (λ n. get_or ks n d) same ∙ here d)
      | inr way ↦ elim way [
        | inl before ↦ absurd (at.above i k (omega arith) (omega (arith, before, lt)) (subst (λ q. mark_cmp (get_or ks i k) q ≡ Less) (here k) (rises i j k before lt)))
        | inr behind ↦ absurd (not_before_itself mark_cmp_total k (subst (λ q. mark_cmp q k ≡ Less) (here k) (at.below j k behind)))
      ]
    ]
  where
    slice_same : (ks : List Mark) (j : ℕ) (c d : Mark) → j < length ks → get_or ks j c ≡ get_or ks j d
    slice_same [] j c d lt = absurd (omega (arith, lt))
    slice_same (k ∷ ks) zero c d lt = refl
    slice_same (k ∷ ks) (suc j) c d lt = slice_same ks j c d (omega (arith, lt))

-- what stands at a place has that for its rank
pub rank_at : (ks : List Mark) (k : Mark) (i : ℕ) → Rises mark_cmp ks → i < length ks → ((d : Mark) → get_or ks i d ≡ k) → IsRank mark_cmp ks k i
rank_at ks k i rises lt is = rank-found mark_cmp_total ks k i rises lt (λ d. ap (λ q. mark_cmp q k) (is d) ∙ tied_itself mark_cmp_total k)

-- what a mark isn't and isn't below is below it
pub below_other : (a b : Mark) → (a ≡ b → ⊥) → (mark_cmp a b ≡ Less → ⊥) → mark_cmp b a ≡ Less
below_other a b other ne =
    elim (mark_cmp a b) as (λ o. mark_cmp a b ≡ o → mark_cmp b a ≡ Less) [
      | Less ↦ λ is. absurd (ne is)
      | Equal ↦ λ is. absurd (other (mark_same a b is))
      | Greater ↦ λ is. mark_cmp_total.antisymm b a ∙ ap ordering_reverse is
    ] refl

-- a mark that is below what stands at a place ranks no further on, and one above it does
pub rank_le : (ks : List Mark) (k : Mark) (i n : ℕ) → Rises mark_cmp ks → IsRank mark_cmp ks k i → n < length ks → mark_cmp k (get_or ks n k) ≡ Less → i ≤ n
rank_le ks k i n rises at lt less = elim (cases_lt n i) [
  | inl before ↦ absurd (not_before_itself mark_cmp_total k (mark_cmp_total.trans k (get_or ks n k) k less (at.below n k before)))
  | inr le ↦ le
]

pub rank_gt : (ks : List Mark) (k : Mark) (i n : ℕ) → IsRank mark_cmp ks k i → n < length ks → mark_cmp (get_or ks n k) k ≡ Less → n < i
rank_gt ks k i n at lt less = elim (cases_lt n i) [
  | inl before ↦ before
  | inr le ↦ absurd (at.above n k le lt less)
]

-- ---- edges

-- the edge stands at the last place in the table
pub edge_at : {size : ℕ} {ks : List Mark} {inside : ℕ} {edge : Mark} → IsEdged size ks inside (Some edge) → (0 < inside) × ((inside - 1 < length ks) × ((d : Mark) → get_or ks (inside - 1) d ≡ edge))
edge_at {size = size} {ks = ks} {inside = inside} {edge = edge} is =
    let within : inside - 1 < length ks = slice_get_within ks (inside - 1) edge (sym is.last) in
    let some = is.some in let count = is.count in
    (omega (arith, within, some, count), (within, λ d. get_or_from_slice_get ks (inside - 1) edge d (sym is.last)))

-- without an edge there are no marks
pub no_edge : {size : ℕ} {ks : List Mark} {inside : ℕ} → IsEdged size ks inside None → length ks ≡ 0
no_edge {size = size} {ks = ks} {inside = inside} is = by (length ks) refl where
  by : (n : ℕ) → length ks ≡ n → length ks ≡ 0
  by zero e = e
  by (suc n) e =
      let some = is.some in let count = is.count in
      by_first ks (λ d. absurd (none-some (get_or ks (inside - 1) d) (is.last ∙ slice_get-get_or ks (inside - 1) d (omega (arith, some, count, e))))) where
        by_first : (ks : List Mark) → ((d : Mark) → length ks ≡ 0) → length ks ≡ 0
        by_first [] f = refl
        by_first (k ∷ ks) f = f k

module _ (size : ℕ) (ks : List Mark) (inside : ℕ) (m : Mark) (i : ℕ) (at : IsRank mark_cmp ks m i) where
  -- if the table has room, a mark comes to be the edge, or the edge stays
  pub comes_first : IsEdged size ks inside None → inside < size → IsEdged size (insert ks i m) (inside + 1) (Some m)
  comes_first is room =
      let none : length ks ≡ 0 = no_edge is in
      let w = at.within in
      let some = is.some in let count = is.count in
      let long : length (insert ks i m) ≡ length ks + 1 = length-insert ks i m w in
      let place : inside + 1 - 1 ≡ i = omega (arith, none, w, count) in
      record {
        some = some;
        count = omega (arith, long, none, count, some);
        last = sym (ap (slice_get (insert ks i m)) place ∙ slice_get-get_or (insert ks i m) i m (omega (arith, long, w)) ∙ ap Some (get_or-insert_at ks i m m w));
      }

  module _ (edge : Mark) (is : IsEdged size ks inside (Some edge)) (lacks : Lacks ks m) where
    abbrev e : (0 < inside) × ((inside - 1 < length ks) × ((d : Mark) → get_or ks (inside - 1) d ≡ edge))
    e = edge_at is

    long : length (insert ks i m) ≡ length ks + 1
    long = length-insert ks i m at.within

    before_edge : Rises mark_cmp ks → mark_cmp m edge ≡ Less → i ≤ inside - 1
    before_edge rises less = rank_le ks m i (inside - 1) rises at e.1.0 (subst (λ q. mark_cmp m q ≡ Less) (sym (e.1.1 m)) less)

    behind_edge : (mark_cmp m edge ≡ Less → ⊥) → inside - 1 < i
    behind_edge ne =
        let other : m ≡ edge → ⊥ = λ same. lacks (inside - 1, e.1.0, e.1.1 m ∙ sym same) in
        rank_gt ks m i (inside - 1) at e.1.0 (subst (λ q. mark_cmp q m ≡ Less) (sym (e.1.1 m)) (below_other m edge other ne))

    pub comes_before_edge : Rises mark_cmp ks → inside < size → mark_cmp m edge ≡ Less → IsEdged size (insert ks i m) (inside + 1) (Some edge)
    comes_before_edge rises room less =
        let le = before_edge rises less in
        let some = is.some in let count = is.count in let first = e.0 in let within = e.1.0 in let w = at.within in
        let place : inside + 1 - 1 ≡ inside - 1 + 1 = omega (arith, first) in
        record {
          some = some;
          count = omega (arith, long, count, room);
          last = sym (ap (slice_get (insert ks i m)) place ∙ slice_get-get_or (insert ks i m) (inside - 1 + 1) m (omega (arith, long, within))
              ∙ ap Some (get_or-insert_above ks i m m (inside - 1) le w ∙ e.1.1 m));
        }

    pub comes_behind_edge : inside < size → (mark_cmp m edge ≡ Less → ⊥) → IsEdged size (insert ks i m) (inside + 1) (Some m)
    comes_behind_edge room ne =
        let lt = behind_edge ne in
        let some = is.some in let count = is.count in let first = e.0 in let within = e.1.0 in let w = at.within in
        let place : inside + 1 - 1 ≡ i = omega (arith, lt, count, room, w, first) in
        record {
          some = some;
          count = omega (arith, long, count, room);
          last = sym (ap (slice_get (insert ks i m)) place ∙ slice_get-get_or (insert ks i m) i m (omega (arith, long, w)) ∙ ap Some (get_or-insert_at ks i m m w));
        }

    -- if it is full, one that comes before the edge moves that out, and one that comes after it doesn't
    pub moves_edge : Rises mark_cmp ks → Rises mark_cmp (insert ks i m) → (inside < size → ⊥) → mark_cmp m edge ≡ Less
        → (last : Option Mark) → ((r : ℕ) → IsRank mark_cmp (insert ks i m) edge r → last ≡ place_before (insert ks i m) r) → IsEdged size (insert ks i m) inside last
    moves_edge rises rise full less last found =
        let le = before_edge rises less in
        let some = is.some in let count = is.count in let first = e.0 in let within = e.1.0 in let w = at.within in
        let no_room : size ≤ inside = elim (cases_lt inside size) [ inl lt ↦ absurd (full lt) | inr le ↦ le ] in
        let rank : IsRank mark_cmp (insert ks i m) edge (suc (inside - 1)) =
        (let on : inside - 1 + 1 ≡ suc (inside - 1) = omega arith in
        rank_at (insert ks i m) edge (suc (inside - 1)) rise (omega (arith, long, within)) (λ d. ap (λ n. get_or (insert ks i m) n d) (sym on) ∙ get_or-insert_above ks i m d (inside - 1) le w ∙ e.1.1 d)) in
        record { some = some; count = omega (arith, long, count, no_room); last = found (suc (inside - 1)) rank }

    pub stays_edge : (inside < size → ⊥) → (mark_cmp m edge ≡ Less → ⊥) → IsEdged size (insert ks i m) inside (Some edge)
    stays_edge full ne =
        let lt = behind_edge ne in
        let some = is.some in let count = is.count in let within = e.1.0 in let w = at.within in
        let no_room : size ≤ inside = elim (cases_lt inside size) [ inl lt ↦ absurd (full lt) | inr le ↦ le ] in
        record {
          some = some;
          count = omega (arith, long, count, no_room);
          last = sym (slice_get-get_or (insert ks i m) (inside - 1) m (omega (arith, long, within)) ∙ ap Some (get_or-insert_below ks i m m (inside - 1) lt w ∙ e.1.1 m));
        }

  -- ---- a mark that goes

  module _ (edge : Mark) (is : IsEdged size ks inside (Some edge)) (rises : Rises mark_cmp ks) (has : Contains ks m) where
    abbrev end : (0 < inside) × ((inside - 1 < length ks) × ((d : Mark) → get_or ks (inside - 1) d ≡ edge))
    end = edge_at is

    here : (i < length ks) × ((d : Mark) → get_or ks i d ≡ m)
    here = at_rank ks m i rises has at

    short : length (remove ks i) + 1 ≡ length ks
    short = length-remove ks i here.0

    pub goes_behind_edge : mark_cmp edge m ≡ Less → IsEdged size (remove ks i) inside (Some edge)
    goes_behind_edge less =
        let lt : inside - 1 < i = rank_gt ks m i (inside - 1) at end.1.0 (subst (λ q. mark_cmp q m ≡ Less) (sym (end.1.1 m)) less) in
        let some = is.some in let count = is.count in let first = end.0 in let within = here.0 in
        record {
          some = some;
          count = omega (arith, short, count, lt, within);
          last = sym (slice_get-get_or (remove ks i) (inside - 1) m (omega (arith, short, lt, within)) ∙ ap Some (get_or-remove_below ks i m (inside - 1) lt within ∙ end.1.1 m));
        }

    upto_edge : (mark_cmp edge m ≡ Less → ⊥) → i ≤ inside - 1
    upto_edge ne = elim (cases_lt (inside - 1) i) [
      | inl lt ↦ absurd (ne (subst (λ q. mark_cmp q m ≡ Less) (end.1.1 m) (at.below (inside - 1) m lt)))
      | inr le ↦ le
    ]

    -- the next after the edge stands at its place then
    pub next_place : Rises mark_cmp (remove ks i) → (mark_cmp edge m ≡ Less → ⊥) → (next : Option Mark)
        → ((r : ℕ) → IsRank mark_cmp (remove ks i) edge r → Contains (remove ks i) edge → next ≡ slice_get (remove ks i) (r + 1))
        → ((r : ℕ) → IsRank mark_cmp (remove ks i) edge r → Lacks (remove ks i) edge → next ≡ slice_get (remove ks i) r)
        → next ≡ slice_get (remove ks i) (inside - 1)
    next_place rise ne next there gone =
        let le = upto_edge ne in let within = here.0 in let inner = end.1.0 in
        elim (cases_lt i (inside - 1)) [
          | inl lt ↦
              let back : inside - 1 - 1 + 1 ≡ inside - 1 = omega (arith, lt) in
              let stands : (d : Mark) → get_or (remove ks i) (inside - 1 - 1) d ≡ edge =
              (λ d. get_or-remove_above ks i d (inside - 1 - 1) (omega (arith, lt)) within ∙ ap (λ n. get_or ks n d) back ∙ end.1.1 d) in
              let inner_now : inside - 1 - 1 < length (remove ks i) = omega (arith, short, inner, lt) in
              there (inside - 1 - 1) (rank_at (remove ks i) edge (inside - 1 - 1) rise inner_now stands) (inside - 1 - 1, inner_now, stands edge)
              ∙ ap (slice_get (remove ks i)) back
          | inr ge ↦
              let place : i ≡ inside - 1 = omega (arith, le, ge) in
              let same : m ≡ edge = sym (here.1 m) ∙ ap (λ n. get_or ks n m) place ∙ end.1.1 m in
              gone (inside - 1) (subst (λ n. IsRank mark_cmp (remove ks i) edge n) place (subst (λ q. IsRank mark_cmp (remove ks i) q i) same without_rank))
              (subst (λ q. Lacks (remove ks i) q) same lacks_now)
        ]
      where
        below_here : (j : ℕ) (d : Mark) → j < i → mark_cmp (get_or (remove ks i) j d) m ≡ Less
        below_here j d lt = subst (λ q. mark_cmp q m ≡ Less) (sym (get_or-remove_below ks i d j lt here.0)) (at.below j d lt)

        above_here : (j : ℕ) (d : Mark) → i ≤ j → j < length (remove ks i) → mark_cmp m (get_or (remove ks i) j d) ≡ Less
        above_here j d le lt =
            subst (λ q. mark_cmp m q ≡ Less) (sym (get_or-remove_above ks i d j le here.0))
            (subst (λ q. mark_cmp q (get_or ks (j + 1) d) ≡ Less) (here.1 d) (rises i (j + 1) d (omega (arith, le)) (omega (arith, short, lt))))

        without_rank : IsRank mark_cmp (remove ks i) m i
        without_rank = record {
          within = let w = here.0 in omega (arith, short, w);
          below = below_here;
          above = λ j d le lt less. not_before_itself mark_cmp_total m (mark_cmp_total.trans m (get_or (remove ks i) j d) m (above_here j d le lt) less);
        }

        lacks_now : Lacks (remove ks i) m
        lacks_now has = elim (cases_lt has.0 i) [
          | inl lt ↦ not_before_itself mark_cmp_total m (subst (λ q. mark_cmp q m ≡ Less) has.2 (below_here has.0 m lt))
          | inr le ↦ not_before_itself mark_cmp_total m (subst (λ q. mark_cmp m q ≡ Less) has.2 (above_here has.0 m le has.1))
        ]

    pub next_comes_in : (mark_cmp edge m ≡ Less → ⊥) → (next : Mark) → Some next ≡ slice_get (remove ks i) (inside - 1) → IsEdged size (remove ks i) inside (Some next)
    next_comes_in ne next found =
        let lt : inside - 1 < length (remove ks i) = slice_get_within (remove ks i) (inside - 1) next (sym found) in
        let some = is.some in let count = is.count in let first = end.0 in
        record { some = some; count = omega (arith, short, count, lt, first); last = found }

    none_left : None ≡ slice_get (remove ks i) (inside - 1) → length (remove ks i) ≡ inside - 1
    none_left none =
        let count = is.count in let first = end.0 in let inner = end.1.0 in
        elim (cases_lt (inside - 1) (length (remove ks i))) [
          | inl lt ↦ absurd (none-some (get_or (remove ks i) (inside - 1) m) (none ∙ slice_get-get_or (remove ks i) (inside - 1) m lt))
          | inr le ↦ omega (arith, le, short, inner, first, count)
        ]

    pub edge_goes : edge ≡ m → Rises mark_cmp (remove ks i) → None ≡ slice_get (remove ks i) (inside - 1) → (last : Option Mark)
        → ((r : ℕ) → IsRank mark_cmp (remove ks i) m r → last ≡ place_before (remove ks i) r) → IsEdged size (remove ks i) (inside - 1) last
    edge_goes same rise none last found =
        let left = none_left none in let count = is.count in let some = is.some in let first = end.0 in let within = here.0 in
        let place : i ≡ inside - 1 = omega (arith, left, short, within, le_edge) in
        record { some = some; count = omega (arith, left, count, short); last = found i rank ∙ ap (place_before (remove ks i)) place ∙ by (inside - 1) (sym left) }
      where
        le_edge : inside - 1 ≤ i
        le_edge = elim (cases_lt i (inside - 1)) [
          | inl lt ↦ absurd (not_before_itself mark_cmp_total m (subst (λ q. mark_cmp m q ≡ Less) (end.1.1 m ∙ same) (subst (λ q. mark_cmp q (get_or ks (inside - 1) m) ≡ Less) (here.1 m) (rises i (inside - 1) m lt end.1.0))))
          | inr le ↦ le
        ]

        rank : IsRank mark_cmp (remove ks i) m i
        rank = record {
          within = let w = here.0 in omega (arith, short, w);
          below = λ j d lt. subst (λ q. mark_cmp q m ≡ Less) (sym (get_or-remove_below ks i d j lt here.0)) (at.below j d lt);
          above = λ j d le lt less. at.above (j + 1) d (omega (arith, le)) (omega (arith, short, lt)) (subst (λ q. mark_cmp q m ≡ Less) (get_or-remove_above ks i d j le here.0) less);
        }

        by : (n : ℕ) → n ≡ length (remove ks i) → place_before (remove ks i) n ≡ slice_get (remove ks i) (n - 1)
        by zero none = sym (slice_get_past (remove ks i) 0 (omega (arith, none)))
        by (suc n) is = let back : suc n - 1 ≡ n = omega arith in sym (ap (slice_get (remove ks i)) back)

    pub edge_stays : (edge ≡ m → ⊥) → (mark_cmp edge m ≡ Less → ⊥) → None ≡ slice_get (remove ks i) (inside - 1) → IsEdged size (remove ks i) (inside - 1) (Some edge)
    edge_stays other ne none =
        let left = none_left none in let count = is.count in let some = is.some in let first = end.0 in let within = here.0 in
        let le = upto_edge ne in
        let lt : i < inside - 1 = (elim (cases_lt i (inside - 1)) [
          | inl lt ↦ lt
          | inr ge ↦ absurd (other (sym (end.1.1 m) ∙ (let place : inside - 1 ≡ i = omega (arith, le, ge) in ap (λ n. get_or ks n m) place) ∙ here.1 m))
        ]) in
        let back : inside - 1 - 1 + 1 ≡ inside - 1 = omega (arith, lt) in
        record {
          some = some;
          count = omega (arith, left, count, short);
          last = sym (slice_get-get_or (remove ks i) (inside - 1 - 1) m (omega (arith, left, lt)) ∙ ap Some (get_or-remove_above ks i m (inside - 1 - 1) (omega (arith, lt)) within ∙ ap (λ n. get_or ks n m) back ∙ end.1.1 m));
        }

-- ---- a mark that moves to a later place

module _ (size : ℕ) (ks : List Mark) (inside : ℕ) (from to : Mark) (i j : ℕ) (at : IsRank mark_cmp ks from i) (there : IsRank mark_cmp (remove ks i) to j) where
  module _ (rises : Rises mark_cmp ks) (has : Contains ks from) (less : mark_cmp from to ≡ Less) where
    abbrev pub moved : List Mark
    moved = insert (remove ks i) j to

    stands_at : (i < length ks) × ((d : Mark) → get_or ks i d ≡ from)
    stands_at = at_rank ks from i rises has at

    fewer : length (remove ks i) + 1 ≡ length ks
    fewer = length-remove ks i stands_at.0

    whole : length moved ≡ length ks
    whole = length-insert (remove ks i) j to there.within ∙ fewer

    further : i ≤ j
    further = elim (cases_lt j i) [
      | inl lt ↦
          let w = stands_at.0 in
          absurd (there.above j to (omega arith) (omega (arith, fewer, lt, w))
          (subst (λ q. mark_cmp q to ≡ Less) (sym (get_or-remove_below ks i to j lt w)) (mark_cmp_total.trans (get_or ks j to) from to (at.below j to lt) less)))
      | inr le ↦ le
    ]

    -- before the place that it left, all is as it was
    stays_before : (k : ℕ) (d : Mark) → k < i → get_or moved k d ≡ get_or ks k d
    stays_before k d lt =
        let le = further in let w = there.within in
        get_or-insert_below (remove ks i) j to d k (omega (arith, lt, le)) w ∙ get_or-remove_below ks i d k lt stands_at.0

    -- between both places, each mark is one place further in front
    moves_up : (k : ℕ) (d : Mark) → i ≤ k → k < j → get_or moved k d ≡ get_or ks (k + 1) d
    moves_up k d le lt = get_or-insert_below (remove ks i) j to d k lt there.within ∙ get_or-remove_above ks i d k le stands_at.0

    -- and behind them all is as it was
    stays_behind : (k : ℕ) (d : Mark) → j ≤ k → i ≤ k → get_or moved (k + 1) d ≡ get_or ks (k + 1) d
    stays_behind k d ge le = get_or-insert_above (remove ks i) j to d k ge there.within ∙ get_or-remove_above ks i d k le stands_at.0

    module _ (edge : Mark) (is : IsEdged size ks inside (Some edge)) where
      abbrev edged : (0 < inside) × ((inside - 1 < length ks) × ((d : Mark) → get_or ks (inside - 1) d ≡ edge))
      edged = edge_at is

      counted : inside ≡ min (length moved) size
      counted = is.count ∙ ap (λ n. min n size) (sym whole)

      upto : (mark_cmp edge from ≡ Less → ⊥) → i ≤ inside - 1
      upto ne = elim (cases_lt (inside - 1) i) [
        | inl lt ↦ absurd (ne (subst (λ q. mark_cmp q from ≡ Less) (edged.1.1 from) (at.below (inside - 1) from lt)))
        | inr le ↦ le
      ]

      pub moved_behind : mark_cmp edge from ≡ Less → IsEdged size moved inside (Some edge)
      moved_behind behind =
          let lt : inside - 1 < i = rank_gt ks from i (inside - 1) at edged.1.0 (subst (λ q. mark_cmp q from ≡ Less) (sym (edged.1.1 from)) behind) in
          let inner = edged.1.0 in
          record {
            some = is.some;
            count = counted;
            last = sym (slice_get-get_or moved (inside - 1) to (omega (arith, whole, inner)) ∙ ap Some (stays_before (inside - 1) to lt ∙ edged.1.1 to));
          }

      pub moved_inside : (mark_cmp edge from ≡ Less → ⊥) → mark_cmp to edge ≡ Less → IsEdged size moved inside (Some edge)
      moved_inside ne before =
          let le = upto ne in let inner = edged.1.0 in let w = stands_at.0 in
          let apart : i ≡ inside - 1 → ⊥ = (λ same. not_before_itself mark_cmp_total from (mark_cmp_total.trans from to from less (subst (λ q. mark_cmp to q ≡ Less) (sym (edged.1.1 to) ∙ ap (λ n. get_or ks n to) (sym same) ∙ stands_at.1 to) before))) in
          let lt : i < inside - 1 = (elim (cases_lt i (inside - 1)) [ inl lt ↦ lt | inr ge ↦ absurd (apart (omega (arith, le, ge))) ]) in
          let back : inside - 1 - 1 + 1 ≡ inside - 1 = omega (arith, lt) in
          let rest_at : get_or (remove ks i) (inside - 1 - 1) to ≡ edge = get_or-remove_above ks i to (inside - 1 - 1) (omega (arith, lt)) w ∙ ap (λ n. get_or ks n to) back ∙ edged.1.1 to in
          let place : j ≤ inside - 1 - 1 = (elim (cases_lt (inside - 1 - 1) j) [
            | inl gt ↦ absurd (not_before_itself mark_cmp_total to (mark_cmp_total.trans to edge to before (subst (λ q. mark_cmp q to ≡ Less) rest_at (there.below (inside - 1 - 1) to gt))))
            | inr ge ↦ ge
          ]) in
          record {
            some = is.some;
            count = counted;
            last = sym (ap (slice_get moved) (sym back) ∙ slice_get-get_or moved (inside - 1 - 1 + 1) to (omega (arith, whole, inner, back))
                ∙ ap Some (stays_behind (inside - 1 - 1) to place (omega (arith, lt)) ∙ ap (λ n. get_or ks n to) back ∙ edged.1.1 to));
          }

      -- one that moves across the edge has the next one come in
      pub moved_across : (mark_cmp edge from ≡ Less → ⊥) → mark_cmp edge to ≡ Less → Rises mark_cmp moved → (next : Option Mark)
          → ((r : ℕ) → IsRank mark_cmp moved edge r → Contains moved edge → next ≡ slice_get moved (r + 1))
          → ((r : ℕ) → IsRank mark_cmp moved edge r → Lacks moved edge → next ≡ slice_get moved r)
          → IsEdged size moved inside next
      moved_across ne across rise next listed lacking = record { some = is.some; count = counted; last = found } where
        le : i ≤ inside - 1
        le = upto ne

        -- it comes to stand behind all that are in
        place : inside - 1 ≤ j
        place = elim (cases_lt j (inside - 1)) [
          | inl lt ↦
              let f = further in let inner = edged.1.0 in let w = stands_at.0 in
              let back : j + 1 ≤ inside - 1 = omega (arith, lt) in
              absurd (there.above j to (omega arith) (omega (arith, fewer, lt, inner))
              (subst (λ q. mark_cmp q to ≡ Less) (sym (get_or-remove_above ks i to j f w)) (upto_edge (j + 1) back)))
          | inr ge ↦ ge
        ] where
          upto_edge : (k : ℕ) → k ≤ inside - 1 → mark_cmp (get_or ks k to) to ≡ Less
          upto_edge k le = elim (cases_lt k (inside - 1)) [
            | inl lt ↦ mark_cmp_total.trans (get_or ks k to) edge to (subst (λ q. mark_cmp (get_or ks k to) q ≡ Less) (edged.1.1 to) (rises k (inside - 1) to lt edged.1.0)) across
            | inr ge ↦ (let same : k ≡ inside - 1 = omega (arith, le, ge) in subst (λ q. mark_cmp q to ≡ Less) (sym (ap (λ n. get_or ks n to) same ∙ edged.1.1 to)) across)
          ]

        before_it : (k : ℕ) (d : Mark) → k < i → mark_cmp (get_or moved k d) from ≡ Less
        before_it k d lt = subst (λ q. mark_cmp q from ≡ Less) (sym (stays_before k d lt)) (at.below k d lt)

        behind_it : (k : ℕ) (d : Mark) → i ≤ k → k < length moved → mark_cmp from (get_or moved k d) ≡ Less
        behind_it k d le lt = elim (cases_order k j) [
          | inl same ↦ subst (λ n. mark_cmp from (get_or moved n d) ≡ Less) (sym same) (subst (λ q. mark_cmp from q ≡ Less) (sym (get_or-insert_at (remove ks i) j to d there.within)) less)
          | inr way ↦ elim way [
            | inl sooner ↦
                let w = stands_at.0 in let tw = there.within in
                subst (λ q. mark_cmp from q ≡ Less) (sym (moves_up k d le sooner))
                (subst (λ q. mark_cmp q (get_or ks (k + 1) d) ≡ Less) (stands_at.1 d) (rises i (k + 1) d (omega (arith, le)) (omega (arith, fewer, sooner, tw))))
            | inr later ↦
                let f = further in
                let back : k - 1 + 1 ≡ k = omega (arith, later) in
                subst (λ n. mark_cmp from (get_or moved n d) ≡ Less) back
                (subst (λ q. mark_cmp from q ≡ Less) (sym (stays_behind (k - 1) d (omega (arith, later)) (omega (arith, later, f))))
                (subst (λ q. mark_cmp q (get_or ks (k - 1 + 1) d) ≡ Less) (stands_at.1 d) (rises i (k - 1 + 1) d (omega (arith, later, f)) (omega (arith, whole, lt, later)))))
          ]
        ]

        left : Lacks moved from
        left has = elim (cases_lt has.0 i) [
          | inl lt ↦ not_before_itself mark_cmp_total from (subst (λ q. mark_cmp q from ≡ Less) has.2 (before_it has.0 from lt))
          | inr ge ↦ not_before_itself mark_cmp_total from (subst (λ q. mark_cmp from q ≡ Less) has.2 (behind_it has.0 from ge has.1))
        ]

        left_rank : IsRank mark_cmp moved from i
        left_rank = record {
          within = let w = stands_at.0 in omega (arith, whole, w);
          below = before_it;
          above = λ k d ge lt less. not_before_itself mark_cmp_total from (mark_cmp_total.trans from (get_or moved k d) from (behind_it k d ge lt) less);
        }

        found : next ≡ slice_get moved (inside - 1)
        found = elim (cases_lt i (inside - 1)) [
          | inl lt ↦
              let p = place in let inner = edged.1.0 in
              let back : inside - 1 - 1 + 1 ≡ inside - 1 = omega (arith, lt) in
              let stood : (d : Mark) → get_or moved (inside - 1 - 1) d ≡ edge = (λ d. moves_up (inside - 1 - 1) d (omega (arith, lt)) (omega (arith, lt, p)) ∙ ap (λ n. get_or ks n d) back ∙ edged.1.1 d) in
              let within : inside - 1 - 1 < length moved = omega (arith, whole, inner, lt) in
              listed (inside - 1 - 1) (rank_at moved edge (inside - 1 - 1) rise within stood) (inside - 1 - 1, within, stood edge) ∙ ap (slice_get moved) back
          | inr ge ↦
              let same : i ≡ inside - 1 = omega (arith, le, ge) in
              let is_from : from ≡ edge = sym (stands_at.1 from) ∙ ap (λ n. get_or ks n from) same ∙ edged.1.1 from in
              lacking (inside - 1) (subst (λ n. IsRank mark_cmp moved edge n) same (subst (λ q. IsRank mark_cmp moved q i) is_from left_rank)) (subst (λ q. Lacks moved q) is_from left)
        ]

-- ---- fronts

-- with room for it, a mark that comes is in
pub came_in : (size : ℕ) (ks new : List Mark) (inside : ℕ) (m : Mark) (i : ℕ) (last : Option Mark) → HasCome m ks i new → IsEdged size ks inside last → inside < size → IsEdged size new (inside + 1) (Some (later_mark last m))
came_in size ks new inside m i None came is room = subst (λ ms. IsEdged size ms (inside + 1) (Some m)) (sym came.is) (comes_first size ks inside m i came.rank is room)
came_in size ks new inside m i (Some edge) came is room = subst (λ ms. IsEdged size ms (inside + 1) (Some (later_mark (Some edge) m))) (sym came.is) (by (is_lt (mark_cmp m edge)) refl) where
  by : (b : Bool) → is_lt (mark_cmp m edge) ≡ b → IsEdged size (insert ks i m) (inside + 1) (Some (if b then edge else m))
  by true less = comes_before_edge size ks inside m i came.rank edge is came.lacks came.rises room (is_less (mark_cmp m edge) less)
  by false ne = comes_behind_edge size ks inside m i came.rank edge is came.lacks room (λ less. let both : true ≡ false = sym (ap is_lt less) ∙ ne in cc)

-- a full front isn't empty
pub not_full : (size : ℕ) (ks : List Mark) (inside : ℕ) → IsEdged size ks inside None → (inside < size → ⊥) → ⊥
not_full size ks inside is full =
    let none = no_edge is in let count = is.count in let some = is.some in
    full (omega (arith, none, count, some))

-- and what goes is something
pub not_empty : (size : ℕ) (ks : List Mark) (inside : ℕ) (m : Mark) → IsEdged size ks inside None → Contains ks m → ⊥
not_empty size ks inside m is has = let none = no_edge is in omega (arith, none, has.1)
