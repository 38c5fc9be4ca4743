-- Edits of a list in order, as edits of the finite map whose keys it lists.
use Rattle.std.proofs.Common.{◌≡◌, ℕ, zero, suc, ◌<◌, ◌≤◌, cond, T, List, [], ◌∷◌, length, get_or, refl, sym, ap, subst, ◌∙◌, arith, Some, None, ◌⊎◌, inl, inr}
use Rattle.std.specs.List.{insert, remove}
use Rattle.std.specs.declared.cmp.Ordering.{Ordering}
use Rattle.std.specs.declared.cmp.Ordering.TheVariants.{Less, Equal, Greater}
use Rattle.std.specs.Ordering.{is_eq, ordering_reverse}
use Rattle.std.specs.Cmp.{IsTotalOrder}
use Rattle.std.specs.Map.{keys_of}
use Rattle.std.specs.FinMap as map
use Rattle.std.specs.FinMap.{FinMap, find, put, is_sorted, entries-insert, entries_sorted, get-entries}
use Rattle.std.proofs.lemmas.Cmp.{tied_itself, alike_right}
use Rattle.ft_hits.proofs.Columns.{not_none}
use Rattle.ft_maps.specs.Entries.{and_left, and_right, is_less}
use Rattle.ft_table.specs.inner.Ascending.{Rises, IsRank}

le_split : (i j : ℕ) → i ≤ j → (i < j) ⊎ (i ≡ j)
le_split zero zero h = inr refl
le_split zero (suc j) h = inl (omega arith)
le_split (suc i) zero h = absurd (omega arith)
le_split (suc i) (suc j) h = elim (le_split i j (omega arith)) [ inl lt ↦ inl (omega arith) | inr e ↦ inr (ap suc e) ]

module _ {K : Type 0} {R : K → K → Ordering} (total : IsTotalOrder R) where
  pub not_before_itself : (k : K) → R k k ≡ Less → ⊥
  not_before_itself k h = let e = tied_itself total k in cc

  turned : (a b : K) → R a b ≡ Greater → R b a ≡ Less
  turned a b h = total.antisymm b a ∙ ap ordering_reverse h

  -- the rank among the keys after the first
  pub next_rank : (x : K) (ks : List K) (k : K) (i : ℕ) → IsRank R (x ∷ ks) k (suc i) → IsRank R ks k i
  next_rank x ks k i h = record {
    within = let w = h.within in omega arith;
    below = λ j d lt. h.below (suc j) d (omega arith);
    above = λ j d le lt. h.above (suc j) d (omega arith) (omega arith);
  }

  undone_first : (k x : K) (ks : List K) (i : ℕ) → IsRank R (k ∷ x ∷ ks) k i → x ∷ ks ≡ remove (k ∷ x ∷ ks) i
  undone_first k x ks zero h = refl
  undone_first k x ks (suc i) h = absurd (not_before_itself k (h.below zero k (omega arith)))

  undone_later : (k x : K) (ks more : List K) (i : ℕ) → R k x ≡ Greater → IsRank R (x ∷ more) k i → ((j : ℕ) → IsRank R more k j → ks ≡ remove more j) → x ∷ ks ≡ remove (x ∷ more) i
  undone_later k x ks more zero is h f = absurd (h.above zero k (omega arith) (omega arith) (turned k x is))
  undone_later k x ks more (suc i) is h f = ap (λ (rest : List K). x ∷ rest) (f i (next_rank x more k i h))

  found_first : (k x : K) (ks : List K) (i : ℕ) → IsRank R (k ∷ x ∷ ks) k i → (i < length (k ∷ x ∷ ks)) × ((d : K) → get_or (k ∷ x ∷ ks) i d ≡ k)
  found_first k x ks zero h = (omega arith, λ d. refl)
  found_first k x ks (suc i) h = absurd (not_before_itself k (h.below zero k (omega arith)))

  found_later : (k x : K) (more : List K) (i : ℕ) → R k x ≡ Greater → IsRank R (x ∷ more) k i → ((j : ℕ) → IsRank R more k j → (j < length more) × ((d : K) → get_or more j d ≡ k)) → (i < length (x ∷ more)) × ((d : K) → get_or (x ∷ more) i d ≡ k)
  found_later k x more zero is h f = absurd (h.above zero k (omega arith) (omega arith) (turned k x is))
  found_later k x more (suc i) is h f = let g = f i (next_rank x more k i h) in (let lt : i < length more = g.0 in omega arith, g.1)

  below_next : (k x : K) (ks : List K) (i : ℕ) → R x k ≡ Less → IsRank R ks k i → (j : ℕ) (d : K) → j < suc i → R (get_or (x ∷ ks) j d) k ≡ Less
  below_next k x ks i less at zero d lt = less
  below_next k x ks i less at (suc j) d lt = at.below j d (omega arith)

  above_next : (k x : K) (ks : List K) (i : ℕ) → IsRank R ks k i → (j : ℕ) (d : K) → suc i ≤ j → j < suc (length ks) → R (get_or (x ∷ ks) j d) k ≡ Less → ⊥
  above_next k x ks i at zero d le lt = absurd (omega arith)
  above_next k x ks i at (suc j) d le lt = at.above j d (omega arith) (omega arith)

  rank_behind : (k x : K) (ks : List K) (i : ℕ) → R x k ≡ Less → IsRank R ks k i → IsRank R (x ∷ ks) k (suc i)
  rank_behind k x ks i less at = record { within = let w = at.within in omega arith; below = below_next k x ks i less at; above = above_next k x ks i at }

  -- an item that ties stands at its rank
  pub rank-found : (ks : List K) (k : K) (i : ℕ) → Rises R ks → i < length ks → ((d : K) → R (get_or ks i d) k ≡ Equal) → IsRank R ks k i
  rank-found ks k i rises within at = record {
    within = omega arith;
    below = λ j d lt. sym (alike_right total (get_or ks i d) k (get_or ks j d) (at d)) ∙ rises j i d lt within;
    above = λ j d le lt less. elim (le_split i j le) [
      | inl before ↦ not_before_itself k (total.trans k (get_or ks j d) k (sym (total.congr (get_or ks i d) k (get_or ks j d) (at d)) ∙ rises i j d before lt) less)
      | inr same ↦ let here : R (get_or ks j d) k ≡ Equal = subst (λ n. R (get_or ks n d) k ≡ Equal) same (at d) in cc
    ];
  }

-- after all stands what all are below
pub rank-end : {K : Type 0} (R : K → K → Ordering) (ks : List K) (k : K) → ((j : ℕ) (d : K) → j < length ks → R (get_or ks j d) k ≡ Less) → IsRank R ks k (length ks)
rank-end R ks k all = record { within = omega arith; below = λ j d lt. all j d lt; above = λ j d le lt. absurd (omega arith) }

module _ {K X : Type 0} (R : K → K → Ordering) where
  -- the keys after a key are above it
  below_at : (k : K) (es : List (K × X)) → T (map.Entries.below_all R k es) → (j : ℕ) (d : K) → j < length (keys_of es) → R k (get_or (keys_of es) j d) ≡ Less
  below_at k [] h j d lt = absurd (omega arith)
  below_at k (e ∷ es) h zero d lt = is_less _ (and_left _ _ h)
  below_at k (e ∷ es) h (suc j) d lt = below_at k es (and_right _ _ h) j d (omega arith)

  rises : (es : List (K × X)) → T (is_sorted R es) → Rises R (keys_of es)
  rises [] h i j d lt within = absurd (omega arith)
  rises (e ∷ es) h zero zero d lt within = absurd (omega arith)
  rises (e ∷ es) h zero (suc j) d lt within = below_at e.0 es (and_left _ _ h) j d (omega arith)
  rises (e ∷ es) h (suc i) zero d lt within = absurd (omega arith)
  rises (e ∷ es) h (suc i) (suc j) d lt within = rises es (and_right _ _ h) i j d (omega arith) (omega arith)

pub rises-keys : {K X : Type 0} {R : K → K → Ordering} (m : FinMap R X) → Rises R (map.keys m)
rises-keys {R = R} m = rises R (map.entries m) (entries_sorted m)

module _ {K X : Type 0} {R : K → K → Ordering} (total : IsTotalOrder R) where
  -- an entry that is put in stands at its key's rank
  pub put-rank : (k : K) (v : X) (es : List (K × X)) (i : ℕ) → find R k es ≡ None → IsRank R (keys_of es) k i → keys_of (put R k v es) ≡ insert (keys_of es) i k
  put-rank k v [] zero none h = refl
  put-rank k v [] (suc i) none h = absurd (let w = h.within in omega arith)
  put-rank k v (e ∷ es) zero none h =
      elim (R k e.0) as (λ o. R k e.0 ≡ o → find R k (e ∷ es) ≡ None → keys_of (map.Entries.by_order o ((k, v) ∷ e ∷ es) ((e.0, v) ∷ es) (e ∷ put R k v es)) ≡ k ∷ e.0 ∷ keys_of es) [
        | Less ↦ λ is none. refl
        | Equal ↦ λ is none. absurd (not_none e.1 (find R k (e ∷ es)) (ap (λ o. cond (is_eq o) (Some e.1) (find R k es)) is) none)
        | Greater ↦ λ is none. absurd (h.above zero k (omega arith) (omega arith) (turned total k e.0 is))
      ] refl none
  put-rank k v (e ∷ es) (suc i) none h =
      elim (R k e.0) as (λ o. R k e.0 ≡ o → find R k (e ∷ es) ≡ None → keys_of (map.Entries.by_order o ((k, v) ∷ e ∷ es) ((e.0, v) ∷ es) (e ∷ put R k v es)) ≡ e.0 ∷ insert (keys_of es) i k) [
        | Less ↦ λ is none. absurd (let below : R e.0 k ≡ Less = h.below zero k (omega arith) in let back : R k e.0 ≡ Greater = total.antisymm k e.0 ∙ ap ordering_reverse below in cc)
        | Equal ↦ λ is none. absurd (not_none e.1 (find R k (e ∷ es)) (ap (λ o. cond (is_eq o) (Some e.1) (find R k es)) is) none)
        | Greater ↦ λ is none. ap (λ (rest : List K). e.0 ∷ rest) (put-rank k v es i (ap (λ o. cond (is_eq o) (Some e.1) (find R k es)) (sym is) ∙ none) (next_rank total e.0 (keys_of es) k i h))
      ] refl none

  -- and without it stand the keys that it was put among
  put-undone : (k : K) (v : X) (es : List (K × X)) (i : ℕ) → find R k es ≡ None → IsRank R (keys_of (put R k v es)) k i → keys_of es ≡ remove (keys_of (put R k v es)) i
  put-undone k v [] zero none h = refl
  put-undone k v [] (suc i) none h = absurd (not_before_itself total k (h.below zero k (omega arith)))
  put-undone k v (e ∷ es) i none h =
      elim (R k e.0) as (λ o. R k e.0 ≡ o → find R k (e ∷ es) ≡ None → IsRank R (keys_of (map.Entries.by_order o ((k, v) ∷ e ∷ es) ((e.0, v) ∷ es) (e ∷ put R k v es))) k i → e.0 ∷ keys_of es ≡ remove (keys_of (map.Entries.by_order o ((k, v) ∷ e ∷ es) ((e.0, v) ∷ es) (e ∷ put R k v es))) i) [
        | Less ↦ λ is none h. undone_first total k e.0 (keys_of es) i h
        | Equal ↦ λ is none h. absurd (not_none e.1 (find R k (e ∷ es)) (ap (λ o. cond (is_eq o) (Some e.1) (find R k es)) is) none)
        | Greater ↦ λ is none h. undone_later total k e.0 (keys_of es) (keys_of (put R k v es)) i is h (λ j at. put-undone k v es j (ap (λ o. cond (is_eq o) (Some e.1) (find R k es)) (sym is) ∙ none) at)
      ] refl none h

  pub keys-insert : (m : FinMap R X) (k : K) (v : X) (i : ℕ) → map.get m k ≡ None → IsRank R (map.keys m) k i → map.keys (map.insert m k v) ≡ insert (map.keys m) i k
  keys-insert m k v i none h =
      ap (λ (es : List (K × X)). keys_of es) (entries-insert total m k v) ∙ put-rank k v (map.entries m) i (sym (get-entries m k) ∙ none) h

  pub keys-without : (m : FinMap R X) (k : K) (v : X) (i : ℕ) → map.get m k ≡ None → IsRank R (map.keys (map.insert m k v)) k i → map.keys m ≡ remove (map.keys (map.insert m k v)) i
  keys-without m k v i none h =
      let is : map.keys (map.insert m k v) ≡ keys_of (put R k v (map.entries m)) = ap (λ (es : List (K × X)). keys_of es) (entries-insert total m k v) in
      put-undone k v (map.entries m) i (sym (get-entries m k) ∙ none) (subst (λ ks. IsRank R ks k i) is h)
      ∙ ap (λ (ks : List K). remove ks i) (sym is)

  keys-put : (k : K) (v w : X) (es : List (K × X)) → keys_of (put R k v es) ≡ keys_of (put R k w es)
  keys-put k v w [] = refl
  keys-put k v w (e ∷ es) =
      elim (R k e.0) as (λ o. keys_of (map.Entries.by_order o ((k, v) ∷ e ∷ es) ((e.0, v) ∷ es) (e ∷ put R k v es)) ≡ keys_of (map.Entries.by_order o ((k, w) ∷ e ∷ es) ((e.0, w) ∷ es) (e ∷ put R k w es))) [
        | Less ↦ refl
        | Equal ↦ refl
        | Greater ↦ ap (λ (rest : List K). e.0 ∷ rest) (keys-put k v w es)
      ]

  -- the value put in is no matter for the keys
  pub keys-insert-any : (m : FinMap R X) (k : K) (v w : X) → map.keys (map.insert m k v) ≡ map.keys (map.insert m k w)
  keys-insert-any m k v w =
      ap (λ (es : List (K × X)). keys_of es) (entries-insert total m k v) ∙ keys-put k v w (map.entries m)
      ∙ sym (ap (λ (es : List (K × X)). keys_of es) (entries-insert total m k w))

  -- what was put in stands at its rank
  put-found : (k : K) (v : X) (es : List (K × X)) (i : ℕ) → find R k es ≡ None → IsRank R (keys_of (put R k v es)) k i → (i < length (keys_of (put R k v es))) × ((d : K) → get_or (keys_of (put R k v es)) i d ≡ k)
  put-found k v [] zero none h = (omega arith, λ d. refl)
  put-found k v [] (suc i) none h = absurd (not_before_itself total k (h.below zero k (omega arith)))
  put-found k v (e ∷ es) i none h =
      elim (R k e.0) as (λ o. R k e.0 ≡ o → find R k (e ∷ es) ≡ None → IsRank R (keys_of (map.Entries.by_order o ((k, v) ∷ e ∷ es) ((e.0, v) ∷ es) (e ∷ put R k v es))) k i → (i < length (keys_of (map.Entries.by_order o ((k, v) ∷ e ∷ es) ((e.0, v) ∷ es) (e ∷ put R k v es)))) × ((d : K) → get_or (keys_of (map.Entries.by_order o ((k, v) ∷ e ∷ es) ((e.0, v) ∷ es) (e ∷ put R k v es))) i d ≡ k)) [
        | Less ↦ λ is none h. found_first total k e.0 (keys_of es) i h
        | Equal ↦ λ is none h. absurd (not_none e.1 (find R k (e ∷ es)) (ap (λ o. cond (is_eq o) (Some e.1) (find R k es)) is) none)
        | Greater ↦ λ is none h. found_later total k e.0 (keys_of (put R k v es)) i is h (λ j at. put-found k v es j (ap (λ o. cond (is_eq o) (Some e.1) (find R k es)) (sym is) ∙ none) at)
      ] refl none h

  pub keys-found : (m : FinMap R X) (k : K) (v : X) (i : ℕ) → map.get m k ≡ None → IsRank R (map.keys (map.insert m k v)) k i → (i < length (map.keys (map.insert m k v))) × ((d : K) → get_or (map.keys (map.insert m k v)) i d ≡ k)
  keys-found m k v i none h =
      let is : map.keys (map.insert m k v) ≡ keys_of (put R k v (map.entries m)) = ap (λ (es : List (K × X)). keys_of es) (entries-insert total m k v) in
      subst (λ ks. (i < length ks) × ((d : K) → get_or ks i d ≡ k)) (sym is) (put-found k v (map.entries m) i (sym (get-entries m k) ∙ none) (subst (λ ks. IsRank R ks k i) is h))

  above_all : (k : K) (e : K × X) (es : List (K × X)) → T (is_sorted R (e ∷ es)) → (R e.0 k ≡ Less → ⊥) → (j : ℕ) (d : K) → j < suc (length (keys_of es)) → R (get_or (e.0 ∷ keys_of es) j d) k ≡ Less → ⊥
  above_all k e es h ne zero d lt less = ne less
  above_all k e es h ne (suc j) d lt less = ne (total.trans e.0 (get_or (keys_of es) j d) k (below_at R e.0 es (and_left _ _ h) j d (omega arith)) less)

  rank_first : (k : K) (e : K × X) (es : List (K × X)) → T (is_sorted R (e ∷ es)) → (R e.0 k ≡ Less → ⊥) → IsRank R (e.0 ∷ keys_of es) k zero
  rank_first k e es h ne = record { within = omega arith; below = λ j d lt. absurd (omega arith); above = λ j d le lt. above_all k e es h ne j d lt }

  rank_in : (k : K) (es : List (K × X)) → T (is_sorted R es) → (i : ℕ) × IsRank R (keys_of es) k i
  rank_in k [] h = (zero, record { within = omega arith; below = λ j d lt. absurd (omega arith); above = λ j d le lt. absurd (omega arith) })
  rank_in k (e ∷ es) h =
      let rest = rank_in k es (and_right _ _ h) in
      elim (R e.0 k) as (λ o. R e.0 k ≡ o → (i : ℕ) × IsRank R (e.0 ∷ keys_of es) k i) [
        | Less ↦ λ less. (suc rest.0, rank_behind total k e.0 (keys_of es) rest.0 less rest.1)
        | Equal ↦ λ is. (zero, rank_first k e es h (λ less. let both : Less ≡ Equal = sym less ∙ is in cc))
        | Greater ↦ λ is. (zero, rank_first k e es h (λ less. let both : Less ≡ Greater = sym less ∙ is in cc))
      ] refl

  -- each key has its rank among those of a map
  pub rank-keys : (m : FinMap R X) (k : K) → (i : ℕ) × IsRank R (map.keys m) k i
  rank-keys m k = rank_in k (map.entries m) (entries_sorted m)
