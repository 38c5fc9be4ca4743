-- Counts of hits along the order, as those of one key change.
use Rattle.std.proofs.Common.{◌≡◌, ℕ, zero, suc, ◌+◌, ◌-◌, ◌<◌, ◌≤◌, ◌^◌, Bool, true, false, cond, List, [], ◌∷◌, length, get_or, refl, sym, ap, subst, ◌∙◌, arith, Some, None, Option, inl, inr}
use Rattle.std.specs.Prelude.{ℤ, ◌||◌, not, is_some}
use Rattle.std.specs.List.{sum_by, list_any}
use Rattle.std.specs.Ordering.{eq_by_cmp}
use Rattle.std.specs.Cmp.{eq_by_cmp_equiv}
use Rattle.std.specs.FinMap as map
use Rattle.std.specs.FinMap.{FinMap, get-insert, contains_key-keys}
use Rattle.std.proofs.lemmas.Bool.{cases_order}
use Rattle.ft_fields.specs.declared.key.Part.{Part}
use Rattle.ft_fields.specs.Parts.{same_key}
use Rattle.ft_hits.specs.declared.mark.Mark.{Mark}
use Rattle.ft_hits.specs.Marks.{mark_cmp, mark_cmp_total, mark_same}
use Rattle.ft_table.specs.inner.Ascending.{IsRank}
use Rattle.ft_table.specs.inner.Cut.{IsSplit}
use Rattle.ft_hits.specs.Hits.{Hits}
use Rattle.ft_table.specs.Tabled.{first_hits}
use Rattle.ft_table.specs.inner.Moves.{others, order_without, order_with, with_less, with_more}
use Rattle.ft_hits.proofs.Flat.{is_equal, same_itself}
use Rattle.ft_table.proofs.Firsts.{get-others, order-found}
use Rattle.ft_table.proofs.Sorted.{rises-keys, not_before_itself}
use Rattle.ft_table.proofs.Edges.{same-sums, all_behind, one-more, one-more-before, one-more-behind, sum-drop-le}

any_at : {A : Type 0} (p : A → Bool) (xs : List A) (j : ℕ) (d : A) → j < length xs → p (get_or xs j d) ≡ true → list_any p xs ≡ true
any_at p [] j d lt is = absurd (omega arith)
any_at p (x ∷ xs) zero d lt is = ap (λ b. b || list_any p xs) is
any_at p (x ∷ xs) (suc j) d lt is = ap (λ b. p x || b) (any_at p xs j d (omega arith) is) ∙ elim (p x) as (λ b. (b || true) ≡ true) [ true ↦ refl | false ↦ refl ]

-- a key that is listed is there
pub listed : (m : FinMap mark_cmp (List ℤ)) (j : ℕ) (d : Mark) → j < length (map.keys m) → is_some (map.get m (get_or (map.keys m) j d)) ≡ true
listed m j d lt = contains_key-keys m (get_or (map.keys m) j d) ∙ any_at (eq_by_cmp mark_cmp (get_or (map.keys m) j d)) (map.keys m) j d lt ((eq_by_cmp_equiv mark_cmp_total).refl (get_or (map.keys m) j d))

not_listed : {X : Type 0} (o : Option X) → o ≡ None → is_some o ≡ true → ⊥
not_listed None is some = cc
not_listed (Some x) is some = cc

others_apart : (hits : Hits) (key : List Part) (q : Mark) (b : Bool) → same_key q.key key ≡ b → is_some (map.get (others hits key) q) ≡ true → b ≡ false
others_apart hits key q true same some = absurd (not_listed (map.get (others hits key) q) (get-others hits key q ∙ ap (λ b. cond (not b) (map.get (first_hits hits) q) None) same) some)
others_apart hits key q false same some = refl

-- the keys of the others are other keys
pub without-apart : (hits : Hits) (key : List Part) (j : ℕ) (d : Mark) → j < length (order_without hits key) → same_key (get_or (order_without hits key) j d).key key ≡ false
without-apart hits key j d lt = others_apart hits key (get_or (order_without hits key) j d) (same_key (get_or (order_without hits key) j d).key key) refl (listed (others hits key) j d lt)

apart_at : (hits : Hits) (m q : Mark) → (q ≡ m → ⊥) → is_some (map.get (map.insert (others hits m.key) m []) q) ≡ true → same_key q.key m.key ≡ false
apart_at hits m q ne some =
    let get : map.get (map.insert (others hits m.key) m []) q ≡ cond (eq_by_cmp mark_cmp q m) (Some []) (map.get (others hits m.key) q) = get-insert mark_cmp_total (others hits m.key) m [] q in
    elim (eq_by_cmp mark_cmp q m) as (λ b. eq_by_cmp mark_cmp q m ≡ b → map.get (map.insert (others hits m.key) m []) q ≡ cond b (Some []) (map.get (others hits m.key) q) → same_key q.key m.key ≡ false) [
      | true ↦ λ tie is. absurd (ne (mark_same q m (is_equal _ tie)))
      | false ↦ λ tie is. others_apart hits m.key q (same_key q.key m.key) refl (sym (ap is_some is) ∙ some)
    ] refl get

-- and all but the one at the key's place have other keys
pub with-apart : (hits : Hits) (m : Mark) (i j : ℕ) (d : Mark) → IsRank mark_cmp (order_with hits m) m i → j < length (order_with hits m) → (j ≡ i → ⊥) → same_key (get_or (order_with hits m) j d).key m.key ≡ false
with-apart hits m i j d at lt ne =
    let found = order-found hits m i at in
    let rises = rises-keys (map.insert (others hits m.key) m []) in
    let here : get_or (order_with hits m) i d ≡ m = found.1 d in
    apart_at hits m (get_or (order_with hits m) j d) (λ is. elim (cases_order j i) [
      | inl same ↦ ne same
      | inr way ↦ elim way [
        | inl before ↦ not_before_itself mark_cmp_total m ((λ k. mark_cmp (sym is k) (sym here k)) ∙ rises j i d before found.0)
        | inr behind ↦ not_before_itself mark_cmp_total m ((λ k. mark_cmp (sym here k) (sym is k)) ∙ rises i j d behind lt)
      ]
    ]) (listed (map.insert (others hits m.key) m []) j d lt)

module _ (hits : Hits) (count more : List Part → ℕ) where
  -- counts that differ at a key that isn't listed
  pub split-without : (key : List Part) {order : List Mark} {size h d : ℕ} → order ≡ order_without hits key → ((q : List Part) → same_key q key ≡ false → more q ≡ count q) → IsSplit count size order h d → IsSplit more size order h d
  split-without key {order = order} {size = size} without same is =
      let f : Mark → ℕ = λ m. count m.key in
      let g : Mark → ℕ = λ m. more m.key in
      let each : (j : ℕ) (d : Mark) → j < length order → g (get_or order j d) ≡ f (get_or order j d) =
      subst (λ (ms : List Mark). (j : ℕ) (d : Mark) → j < length ms → g (get_or ms j d) ≡ f (get_or ms j d)) (sym without) (λ j d lt. same _ (without-apart hits key j d lt)) in
      record { behind = is.behind ∙ sym (all_behind f g order size each); whole = is.whole ∙ sym (same-sums f g order each); fits = is.fits }

  module _ (m : Mark) (order : List Mark) (is : order ≡ order_with hits m) (i : ℕ) (at : IsRank mark_cmp (order_with hits m) m i) (one : more m.key ≡ count m.key + 1) (same : (q : List Part) → same_key q m.key ≡ false → more q ≡ count q) where
    abbrev f : Mark → ℕ
    f m = count m.key

    abbrev g : Mark → ℕ
    g m = more m.key

    found : (i < length order) × ((d : Mark) → get_or order i d ≡ m)
    found = subst (λ (ms : List Mark). (i < length ms) × ((d : Mark) → get_or ms i d ≡ m)) (sym is) (order-found hits m i at)

    one_here : (d : Mark) → g (get_or order i d) ≡ f (get_or order i d) + 1
    one_here d = ap g (found.1 d) ∙ one ∙ sym (ap (λ q. f q + 1) (found.1 d))

    same_else : (j : ℕ) (d : Mark) → j < length order → (j ≡ i → ⊥) → g (get_or order j d) ≡ f (get_or order j d)
    same_else j d = subst (λ (ms : List Mark). j < length ms → (j ≡ i → ⊥) → g (get_or ms j d) ≡ f (get_or ms j d)) (sym is) (λ lt ne. same _ (with-apart hits m i j d at lt ne))

    all_more : sum_by g order ≡ sum_by f order + 1
    all_more = one-more f g order i m found.0 (one_here m) same_else

    -- one more hit of a key in the table, and of one outside
    pub split-up-in : {size h d : ℕ} → i < size → IsSplit count size order h d → h + d + 1 < 2 ^ 64 → IsSplit more size order (h + 1) d
    split-up-in {size = size} lt is few =
        let same_behind = one-more-before f g order size i lt same_else in
        let behind = is.behind in let whole = is.whole in let all = all_more in
        record { behind = omega arith; whole = omega arith; fits = omega arith }

    pub split-up-out : {size h d : ℕ} → size ≤ i → IsSplit count size order h d → h + d + 1 < 2 ^ 64 → IsSplit more size order h (d + 1)
    split-up-out {size = size} le is few =
        let more_behind = one-more-behind f g order size i m le found.0 (one_here m) same_else in
        let behind = is.behind in let whole = is.whole in let all = all_more in
        record { behind = omega arith; whole = omega arith; fits = omega arith }

    -- one less
    pub split-down-in : {size h d : ℕ} → i < size → IsSplit more size order h d → (1 ≤ h) × IsSplit count size order (h - 1) d
    split-down-in {size = size} lt is =
        let same_behind = one-more-before f g order size i lt same_else in
        let le = sum-drop-le f order size in
        let behind = is.behind in let whole = is.whole in let all = all_more in let fits = is.fits in
        (omega arith, record { behind = omega arith; whole = omega arith; fits = omega arith })

    pub split-down-out : {size h d : ℕ} → size ≤ i → IsSplit more size order h d → (1 ≤ d) × IsSplit count size order h (d - 1)
    split-down-out {size = size} le is =
        let more_behind = one-more-behind f g order size i m le found.0 (one_here m) same_else in
        let behind = is.behind in let whole = is.whole in let all = all_more in let fits = is.fits in
        (omega arith, record { behind = omega arith; whole = omega arith; fits = omega arith })

-- counts with one less at a key, and with one more
pub less_here : (count : List Part → ℕ) (key : List Part) → 0 < count key → count key ≡ with_less count key key + 1
less_here count key some = let is : with_less count key key ≡ count key - 1 = ap (λ b. cond b (count key - 1) (count key)) (same_itself key) in omega arith

pub less_else : (count : List Part → ℕ) (key q : List Part) → same_key q key ≡ false → count q ≡ with_less count key q
less_else count key q apart = sym (ap (λ b. cond b (count q - 1) (count q)) apart)

pub more_here : (count : List Part → ℕ) (key : List Part) → with_more count key key ≡ count key + 1
more_here count key = ap (λ b. cond b (count key + 1) (count key)) (same_itself key)

pub more_else : (count : List Part → ℕ) (key q : List Part) → same_key q key ≡ false → with_more count key q ≡ count q
more_else count key q apart = ap (λ b. cond b (count q + 1) (count q)) apart
