-- Laws of a finite map's entries and look-ups, which the standard library leaves to its users.
use Rattle.std.specs.Prelude.{◌≡◌, ◌&&◌, Bool, true, false, List, [], ◌∷◌, length, Some, None}
use Rattle.std.specs.List.{AllByRecursion}
use Rattle.std.specs.List.Sorted.{IsStrictlySortedBy}
use Rattle.std.specs.declared.cmp.Ordering.{Ordering}
use Rattle.std.specs.declared.cmp.Ordering.TheVariants.{Less, Equal, Greater}
use Rattle.std.specs.Ordering.{is_eq, is_lt, eq_by_cmp}
use Rattle.std.specs.Cmp.{IsTotalOrder, eq_by_cmp_equiv}
use Rattle.std.specs.Map.{keys_of}
use Rattle.std.specs.FinMap as finite
use Rattle.std.specs.FinMap.{FinMap, IsAntisymmetric, put, is_sorted, from_entries, entries-insert, entries-from_sorted, get-insert, get-remove, len-entries, empty_of_len, same_map}
use Rattle.std.specs.FinMap.Entries.{below_all, by_order}
use Rattle.std.proofs.Common.{T, cond, refl, sym, ap, subst, ◌∙◌}
use Rattle.std.proofs.lemmas.Map.Keys.{sorted_head, sorted_tail}

-- ---- tests

-- of two tests that pass, the first does
pub and_left : (a b : Bool) → T (a && b) → T a
and_left true b h = tt
and_left false b h = h

-- and so does the second
pub and_right : (a b : Bool) → T (a && b) → T b
and_right true b h = h
and_right false b h = absurd h

-- a comparison that answers that one is below the other answers `Less`
pub is_less : (o : Ordering) → T (is_lt o) → o ≡ Less
is_less Less h = refl
is_less Equal h = absurd h
is_less Greater h = absurd h

-- a comparison that ties answers `Equal`
pub equal_from_tie : (o : Ordering) → is_eq o ≡ true → o ≡ Equal
equal_from_tie Less e = absurd (subst T (sym e) tt)
equal_from_tie Equal e = refl
equal_from_tie Greater e = absurd (subst T (sym e) tt)

-- if only equal keys tie, keys that tie are equal
pub same_from_tie : {K : Type 0} {R : K → K → Ordering} → IsAntisymmetric R → (x y : K) → eq_by_cmp R x y ≡ true → x ≡ y
same_from_tie {R = R} same x y e = same x y (equal_from_tie (R x y) e)

never : (b : Bool) → (b ≡ true → ⊥) → b ≡ false
never true h = absurd (h refl)
never false h = refl

-- ---- the entries

-- the empty map has no entries
pub entries-empty : {K X : Type 0} (R : K → K → Ordering) → finite.entries (finite.empty {X = X} {R = R}) ≡ []
entries-empty {X = X} R =
    let none = entries-from_sorted {X = X} R [] tt in
    sym (ap finite.entries (empty_of_len (finite.from_sorted {R = R} []) (len-entries (finite.from_sorted {R = R} []) ∙ ap length none))) ∙ none

module _ {K X : Type 0} (R : K → K → Ordering) where
  below_each : (k : K) (es : List (K × X)) → T (below_all R k es) → AllByRecursion (λ q. R k q ≡ Less) (keys_of es)
  below_each k [] h = tt
  below_each k (e ∷ es) h = (is_less _ (and_left _ _ h), below_each k es (and_right _ _ h))

  -- entries in order have keys that strictly ascend
  pub strictly_sorted : (es : List (K × X)) → T (is_sorted R es) → IsStrictlySortedBy R (keys_of es)
  unfolding IsStrictlySortedBy
  strictly_sorted [] h = tt
  strictly_sorted (e ∷ es) h = (below_each e.0 es (and_left _ _ h), strictly_sorted es (and_right _ _ h))

module _ {K X : Type 0} {R : K → K → Ordering} (total : IsTotalOrder R) where
  put_front : (e : K × X) (es : List (K × X)) → IsStrictlySortedBy R (keys_of (e ∷ es)) → put R e.0 e.1 es ≡ e ∷ es
  put_front e [] sorted = refl
  put_front e (x ∷ es) sorted = ap (λ o. by_order o (e ∷ x ∷ es) ((x.0, e.1) ∷ es) (x ∷ put R e.0 e.1 es)) (sorted_head R e.0 (keys_of (x ∷ es)) sorted).0

  -- a map made of entries in order has these entries
  pub entries-from_entries : (es : List (K × X)) → IsStrictlySortedBy R (keys_of es) → finite.entries (from_entries {R = R} es) ≡ es
  entries-from_entries [] sorted = entries-empty R
  entries-from_entries (e ∷ es) sorted =
      entries-insert total (from_entries es) e.0 e.1
      ∙ ap (put R e.0 e.1) (entries-from_entries es (sorted_tail R e.0 (keys_of es) sorted))
      ∙ put_front e es sorted

  -- ---- one key

  -- a key that was inserted has the value
  pub get-insert_same : (m : FinMap R X) (k : K) (v : X) → finite.get (finite.insert m k v) k ≡ Some v
  get-insert_same m k v = get-insert total m k v k ∙ ap (λ b. cond b (Some v) (finite.get m k)) ((eq_by_cmp_equiv total).refl k)

  -- a key that was removed has none
  pub get-remove_same : (m : FinMap R X) (k : K) → finite.get (finite.remove m k) k ≡ None
  get-remove_same m k = get-remove total m k k ∙ ap (λ b. cond b None (finite.get m k)) ((eq_by_cmp_equiv total).refl k)

  module _ (same : IsAntisymmetric R) where
    -- another key keeps what it had, after an insertion
    pub get-insert_other : (m : FinMap R X) (k : K) (v : X) (q : K) → (q ≡ k → ⊥) → finite.get (finite.insert m k v) q ≡ finite.get m q
    get-insert_other m k v q other = get-insert total m k v q ∙ ap (λ b. cond b (Some v) (finite.get m q)) (never _ (λ e. other (same_from_tie same q k e)))

    -- and after a removal
    pub get-remove_other : (m : FinMap R X) (k q : K) → (q ≡ k → ⊥) → finite.get (finite.remove m k) q ≡ finite.get m q
    get-remove_other m k q other = get-remove total m k q ∙ ap (λ b. cond b None (finite.get m q)) (never _ (λ e. other (same_from_tie same q k e)))

    at_key : (m : FinMap R X) (k : K) (v : X) → finite.get m k ≡ Some v → (q : K) (b : Bool) → eq_by_cmp R q k ≡ b → cond b (Some v) (finite.get m q) ≡ finite.get m q
    at_key m k v is q true e = sym (ap (finite.get m) (same_from_tie same q k e) ∙ is)
    at_key m k v is q false e = refl

    -- inserting at a key what it has changes nothing
    pub insert_same : (m : FinMap R X) (k : K) (v : X) → finite.get m k ≡ Some v → finite.insert m k v ≡ m
    insert_same m k v is = same_map total same _ _ (λ q. get-insert total m k v q ∙ at_key m k v is q (eq_by_cmp R q k) refl)
