-- Sums of values, as a hit is put in or taken out.
use Rattle.std.proofs.Common.{◌≡◌, ℕ, zero, suc, ◌<◌, ◌+◌, ◌%◌, ◌^◌, Bool, true, false, cond, List, [], ◌∷◌, refl, sym, ap, ◌∙◌, arith, Some, None, Option}
use Rattle.std.specs.List.{sum_by}
use Rattle.std.specs.declared.cmp.Ordering.{Ordering}
use Rattle.std.specs.declared.cmp.Ordering.TheVariants.{Less, Equal, Greater}
use Rattle.std.specs.Ordering.{is_eq, eq_by_cmp}
use Rattle.std.specs.Cmp.{IsTotalOrder, eq_by_cmp_equiv}
use Rattle.std.specs.Map.{values_of}
use Rattle.std.specs.FinMap as map
use Rattle.std.specs.FinMap.{FinMap, IsAntisymmetric, find, put, empty_of_len, entries-insert, get-empty, get-entries, get-insert, get-remove, same_map}
use Rattle.std.proofs.lemmas.List.Sums.{sum_by-cons}
use Rattle.std.proofs.Math.Nat.{mod-add-mod}
use Rattle.std.specs.Prelude.{ℤ}
use Rattle.ft_hits.specs.declared.spot.Spot.{Spot}
use Rattle.ft_hits.specs.Hits.{EntryHits, unsigned_at, column}
use Rattle.ft_hits.specs.Spots.{spot_cmp_total, spot_same}

tied : (r : Ordering) → is_eq r ≡ true → r ≡ Equal
tied Less e = cc
tied Equal e = refl
tied Greater e = cc

pub not_none : {X : Type 0} (x : X) (o : Option X) → o ≡ Some x → o ≡ None → ⊥
not_none x o a b = cc

module _ {K X : Type 0} {R : K → K → Ordering} (total : IsTotalOrder R) (same : IsAntisymmetric R) (h : X → ℕ) where
  sum-put : (k : K) (v : X) (es : List (K × X)) → find R k es ≡ None → sum_by h (values_of (put R k v es)) ≡ sum_by h (values_of es) + h v
  sum-put k v [] none = omega (arith, sum_by-cons h v [])
  sum-put k v (e ∷ es) none =
      elim (R k e.0) as (λ o. R k e.0 ≡ o → sum_by h (values_of (map.Entries.by_order o ((k, v) ∷ e ∷ es) ((e.0, v) ∷ es) (e ∷ put R k v es))) ≡ sum_by h (values_of (e ∷ es)) + h v) [
        | Less ↦ λ is. omega (arith, sum_by-cons h v (e.1 ∷ values_of es))
        | Equal ↦ λ is. absurd (not_none e.1 (find R k (e ∷ es)) (ap (λ o. cond (is_eq o) (Some e.1) (find R k es)) is) none)
        | Greater ↦ λ is.
            let rest = sum-put k v es (ap (λ o. cond (is_eq o) (Some e.1) (find R k es)) (sym is) ∙ none) in
            omega (arith, sum_by-cons h e.1 (values_of (put R k v es)), sum_by-cons h e.1 (values_of es), rest)
      ] refl

  pub sum-insert : (m : FinMap R X) (k : K) (v : X) → map.get m k ≡ None → sum_by h (map.values (map.insert m k v)) ≡ sum_by h (map.values m) + h v
  sum-insert m k v none = ap (λ (es : List (K × X)). sum_by h (values_of es)) (entries-insert total m k v) ∙ sum-put k v (map.entries m) (sym (get-entries m k) ∙ none)

  back : (m : FinMap R X) (k : K) (v : X) → map.get m k ≡ Some v → (q : K) (b : Bool) → eq_by_cmp R q k ≡ b → cond b (Some v) (cond b None (map.get m q)) ≡ map.get m q
  back m k v is q true tie = sym (ap (map.get m) (same q k (tied _ tie)) ∙ is)
  back m k v is q false tie = refl

  put_back : (m : FinMap R X) (k : K) (v : X) → map.get m k ≡ Some v → map.insert (map.remove m k) k v ≡ m
  put_back m k v is = same_map total same _ _ (λ q.
      get-insert total (map.remove m k) k v q ∙ ap (cond (eq_by_cmp R q k) (Some v)) (get-remove total m k q) ∙ back m k v is q (eq_by_cmp R q k) refl)

  pub sum-remove : (m : FinMap R X) (k : K) (v : X) → map.get m k ≡ Some v → sum_by h (map.values m) ≡ sum_by h (map.values (map.remove m k)) + h v
  sum-remove m k v is =
      ap (λ (n : FinMap R X). sum_by h (map.values n)) (sym (put_back m k v is))
      ∙ sum-insert (map.remove m k) k v (get-remove total m k k ∙ ap (λ b. cond b None (map.get m k)) ((eq_by_cmp_equiv total).refl k))

-- a map that has something has entries
pub some-len : {K X : Type 0} {R : K → K → Ordering} (m : FinMap R X) (k : K) (v : X) → map.get m k ≡ Some v → 0 < map.len m
some-len {R = R} m k v is = at (map.len m) refl where
  at : (n : ℕ) → map.len m ≡ n → 0 < n
  at zero e = absurd (not_none v (map.get m k) is (ap (λ o. map.get o k) (empty_of_len m e) ∙ get-empty R k))
  at (suc n) e = omega arith

-- ---- the three sums of an entry

-- a sum and a value, and the sum with it
pub column-more : (j : ℕ) (entry : EntryHits) (p : Spot) (v : List ℤ) (old new : ℕ) → map.get entry p ≡ None → old ≡ column j entry → new ≡ (old + unsigned_at j v) % 2 ^ 64 → new ≡ column j (map.insert entry p v)
column-more j entry p v old new none is e =
    e ∙ ap (λ n. (n + unsigned_at j v) % 2 ^ 64) is ∙ mod-add-mod (sum_by (unsigned_at j) (map.values entry)) (2 ^ 64) (unsigned_at j v)
    ∙ ap (λ n. n % 2 ^ 64) (sym (sum-insert spot_cmp_total spot_same (unsigned_at j) entry p v none))

-- a sum is that of the others, and the value
pub column-less : (j : ℕ) (entry : EntryHits) (p : Spot) (v : List ℤ) (old : ℕ) → map.get entry p ≡ Some v → old ≡ column j entry → old ≡ (sum_by (unsigned_at j) (map.values (map.remove entry p)) + unsigned_at j v) % 2 ^ 64
column-less j entry p v old has is = is ∙ ap (λ n. n % 2 ^ 64) (sum-remove spot_cmp_total spot_same (unsigned_at j) entry p v has)
