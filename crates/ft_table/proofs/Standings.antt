-- The hits on both sides of the edge, as a key comes or goes, told by where its mark stands.
use Rattle.std.proofs.Common.{◌≡◌, ℕ, ◌+◌, ◌-◌, ◌<◌, ◌≤◌, ◌^◌, Bool, true, false, List, [], length, get_or, refl, sym, ap, subst, ◌∙◌, arith, nat_lt, Some, None, inl, inr}
use Rattle.std.specs.Prelude.{slice_get}
use Rattle.std.specs.List.{Contains, insert, remove, sum_by}
use Rattle.std.specs.FinMap as map
use Rattle.std.specs.declared.cmp.Ordering.TheVariants.{Less}
use Rattle.std.proofs.lemmas.Bool.{cases_lt, cases_order, ltb-true}
use Rattle.std.proofs.lemmas.Bool.Decides.{nat_tests}
use Rattle.ft_fields.specs.Parts.{same_key}
use Rattle.std.proofs.lemmas.List.Edits.{length-insert, get_or-insert_below, get_or-insert_at, get_or-insert_above}
use Rattle.std.proofs.lemmas.List.Sums.{sum_by-remove}
use Rattle.std.proofs.lemmas.Option.{get_or_from_slice_get, slice_get_within, slice_get-get_or, none-some}
use Rattle.ft_fields.specs.declared.key.Part.{Part}
use Rattle.ft_hits.specs.declared.mark.Mark.{Mark}
use Rattle.ft_hits.specs.Hits.{Hits}
use Rattle.ft_hits.specs.Marks.{mark_cmp, mark_cmp_total}
use Rattle.ft_table.specs.inner.Ascending.{IsRank}
use Rattle.ft_table.specs.inner.Cut.{IsSplit}
use Rattle.ft_table.specs.inner.Moves.{others, order_with, order_without}
use Rattle.ft_table.specs.inner.Ordered.{Lacks}
use Rattle.ft_table.proofs.Counts.{without-apart}
use Rattle.ft_table.proofs.Firsts.{order-enter, order-leave, order-found}
use Rattle.ft_table.proofs.Sorted.{rank-keys, not_before_itself}
use Rattle.ft_table.proofs.Splits.{enters-full, enters-room, enters-behind, leaves-full, leaves-room, leaves-behind, resplit}
use Rattle.ft_hits.proofs.Flat.{same_itself}

-- what is put in at its rank stands there
pub rank_put : (ks : List Mark) (m : Mark) (i : ℕ) → IsRank mark_cmp ks m i → IsRank mark_cmp (insert ks i m) m i
rank_put ks m i at =
    let w = at.within in
    let long : length (insert ks i m) ≡ length ks + 1 = length-insert ks i m w in
    record {
      within = omega (arith, long, w);
      below = λ j d lt. subst (λ q. mark_cmp q m ≡ Less) (sym (get_or-insert_below ks i m d j lt w)) (at.below j d lt);
      above = λ j d le lt. elim (cases_order j i) [
        | inl same ↦ (λ less. not_before_itself mark_cmp_total m (subst (λ q. mark_cmp q m ≡ Less) (ap (λ n. get_or (insert ks i m) n d) same ∙ get_or-insert_at ks i m d w) less))
        | inr way ↦ elim way [
          | inl before ↦ absurd (omega (arith, before, le))
          | inr behind ↦
              let back : j - 1 + 1 ≡ j = omega (arith, behind) in
              λ less. at.above (j - 1) d (omega (arith, behind)) (omega (arith, long, lt, behind))
              (subst (λ q. mark_cmp q m ≡ Less) (ap (λ n. get_or (insert ks i m) n d) (sym back) ∙ get_or-insert_above ks i m d (j - 1) (omega (arith, behind)) w) less)
        ]
      ];
    }

module _ (hits : Hits) (m : Mark) (size : ℕ) where
  abbrev order : List Mark
  order = order_with hits m

  abbrev rest : List Mark
  rest = order_without hits m.key

  -- the rank of the mark among all
  pub rank_with : (i : ℕ) × IsRank mark_cmp order m i
  rank_with = rank-keys mark_cmp_total (map.insert (others hits m.key) m []) m

  -- and among the others
  pub rank_without : (i : ℕ) × (IsRank mark_cmp rest m i × (order ≡ insert rest i m))
  rank_without = let at = rank-keys mark_cmp_total (others hits m.key) m in (at.0, (at.1, order-enter hits m at.0 at.1))

  -- it is one of all, and none of the others
  pub stands : Contains order m
  stands = let found = order-found hits m rank_with.0 rank_with.1 in (rank_with.0, found.0, found.1 m)

  pub lacks : Lacks rest m
  lacks has =
      let apart : same_key (get_or rest has.0 m).key m.key ≡ false = without-apart hits m.key has.0 m has.1 in
      let both : true ≡ false = sym (same_itself m.key) ∙ ap (λ (q : Mark). same_key q.key m.key) (sym has.2) ∙ apart in
      cc

  -- whether it is in the table
  abbrev pub IsInside : Bool → Type 0
  IsInside inside = (i : ℕ) → IsRank mark_cmp order m i → inside ≡ nat_lt i size

  pub inside_lt : (b : Bool) → IsInside b → b ≡ true → (i : ℕ) → IsRank mark_cmp order m i → i < size
  inside_lt b is yes_in i at = ltb-true i size (sym (is i at) ∙ yes_in)

  pub outside_le : (b : Bool) → IsInside b → b ≡ false → (i : ℕ) → IsRank mark_cmp order m i → size ≤ i
  outside_le b is out i at = elim (cases_lt i size) [
    | inl lt ↦ absurd (let both : true ≡ false = sym (lt_true i size lt) ∙ sym (is i at) ∙ out in cc)
    | inr le ↦ le
  ] where
    lt_true : (i n : ℕ) → i < n → nat_lt i n ≡ true
    lt_true i n lt = grind (arith, nat_tests, lt)

  rank_order : IsRank mark_cmp order m rank_without.0
  rank_order = subst (λ ms. IsRank mark_cmp ms m rank_without.0) (sym rank_without.1.1) (rank_put rest m rank_without.0 rank_without.1.0)

  long : length order ≡ length rest + 1
  long = ap length rank_without.1.1 ∙ length-insert rest rank_without.0 m rank_without.1.0.within

  found : (d : Mark) → get_or order rank_with.0 d ≡ m
  found = (order-found hits m rank_with.0 rank_with.1).1

  within_order : rank_with.0 < length order
  within_order = (order-found hits m rank_with.0 rank_with.1).0

  weigh_here : (count : List Part → ℕ) → count (get_or order rank_with.0 m).key ≡ count m.key
  weigh_here count = ap (λ (q : Mark). count q.key) (found m)

  left : rest ≡ remove order rank_with.0
  left = order-leave hits m rank_with.0 rank_with.1

  module _ (count : List Part → ℕ) {h d : ℕ} where
    -- a key that came into a full table: the last one went out, and is the first outside
    pub came_full : (b : Bool) (o : Mark) → IsInside b → b ≡ true → slice_get order size ≡ Some o → IsSplit count size rest h d → h + d + count m.key < 2 ^ 64
        → (count o.key ≤ h + count m.key) × IsSplit count size order (h + count m.key - count o.key) (d + count o.key)
    came_full b o is in_it next split few =
        let at = rank_without in
        let lt : at.0 < size = inside_lt b is in_it at.0 rank_order in
        let within = slice_get_within order size o next in
        let long_is = long in
        let on : size - 1 + 1 ≡ size = omega (arith, lt) in
        let out : get_or rest (size - 1) m ≡ o =
        sym (get_or-insert_above rest at.0 m m (size - 1) (omega (arith, lt)) at.1.0.within) ∙ ap (λ ms. get_or ms (size - 1 + 1) m) (sym at.1.1) ∙ ap (λ n. get_or order n m) on ∙ get_or_from_slice_get order size o m next in
        let f = enters-full count at.0 m m lt (omega (arith, within, long_is)) split few in
        let weigh : count (get_or rest (size - 1) m).key ≡ count o.key = ap (λ (q : Mark). count q.key) out in (
          subst (λ n. n ≤ h + count m.key) weigh f.0,
          resplit count f.1 refl at.1.1 (ap (λ n. h + count m.key - n) (sym weigh)) (ap (λ n. d + n) (sym weigh)),
        )

    -- one that came into a table with room
    pub came_room : (b : Bool) → IsInside b → b ≡ true → slice_get order size ≡ None → IsSplit count size rest h d → h + d + count m.key < 2 ^ 64 → IsSplit count size order (h + count m.key) d
    came_room b is in_it next split few =
        let at = rank_without in
        let lt : at.0 < size = inside_lt b is in_it at.0 rank_order in
        let long_is = long in
        let short : length order ≤ size = (elim (cases_lt size (length order)) [
          | inl within ↦ absurd (none-some (get_or order size m) (sym next ∙ slice_get-get_or order size m within))
          | inr le ↦ le
        ]) in
        resplit count (enters-room count at.0 m lt (omega (arith, short, long_is)) split few) refl at.1.1 refl refl

    -- and one that came outside
    pub came_outside : (b : Bool) → IsInside b → b ≡ false → IsSplit count size rest h d → h + d + count m.key < 2 ^ 64 → IsSplit count size order h (d + count m.key)
    came_outside b is out split few =
        let at = rank_without in
        resplit count (enters-behind count at.0 m (outside_le b is out at.0 rank_order) at.1.0.within split few) refl at.1.1 refl refl

    -- a key that goes from a full table: the first outside comes in
    pub went_full : (b : Bool) (o : Mark) → IsInside b → b ≡ true → slice_get order size ≡ Some o → IsSplit count size order h d
        → (count o.key ≤ d) × (count m.key ≤ h + count o.key) × IsSplit count size rest (h + count o.key - count m.key) (d - count o.key)
    went_full b o is in_it next split =
        let lt = inside_lt b is in_it rank_with.0 rank_with.1 in
        let within = slice_get_within order size o next in
        let back : count (get_or order size m).key ≡ count o.key = ap (λ (q : Mark). count q.key) (get_or_from_slice_get order size o m next) in
        let here = weigh_here count in
        let f = leaves-full count rank_with.0 m m lt within split in (
          subst (λ n. n ≤ d) back f.0,
          omega (arith, f.1, back, here),
          resplit count f.2 refl left (λ i. h + sym back i - sym here i) (ap (λ n. d - n) (sym back)),
        )

    -- one that goes from a table, if none are outside
    pub went_room : (b : Bool) → IsInside b → b ≡ true → slice_get order size ≡ None → IsSplit count size order h d → (count m.key ≤ h) × IsSplit count size rest (h - count m.key) d
    went_room b is in_it next split =
        let lt = inside_lt b is in_it rank_with.0 rank_with.1 in
        let short : length order ≤ size = (elim (cases_lt size (length order)) [
          | inl within ↦ absurd (none-some (get_or order size m) (sym next ∙ slice_get-get_or order size m within))
          | inr le ↦ le
        ]) in
        let here = weigh_here count in
        let f = leaves-room count rank_with.0 m lt within_order short split in
        (subst (λ n. n ≤ h) here f.0, resplit count f.1 refl left (ap (λ n. h - n) (sym here)) refl)

    -- and one that goes from outside
    pub went_outside : (b : Bool) → IsInside b → b ≡ false → IsSplit count size order h d → (count m.key ≤ d) × IsSplit count size rest h (d - count m.key)
    went_outside b is out split =
        let here = weigh_here count in
        let f = leaves-behind count rank_with.0 m (outside_le b is out rank_with.0 rank_with.1) within_order split in
        (subst (λ n. n ≤ d) here f.0, resplit count f.1 refl left refl (ap (λ n. d - n) (sym here)))

    -- what is counted without it
    pub counted_less : {h2 d2 : ℕ} → IsSplit count size order h d → IsSplit count size rest h2 d2 → h2 + d2 + count m.key ≡ h + d
    counted_less old new =
        let weight : Mark → ℕ = λ q. count q.key in
        let less : sum_by weight (remove order rank_with.0) + weight (get_or order rank_with.0 m) ≡ sum_by weight order = sum_by-remove weight order rank_with.0 m within_order in
        let of_rest : sum_by weight rest ≡ sum_by weight (remove order rank_with.0) = ap (sum_by weight) left in
        let here = weigh_here count in let new_is = new.whole in let old_is = old.whole in
        omega (arith, less, of_rest, here, new_is, old_is)
