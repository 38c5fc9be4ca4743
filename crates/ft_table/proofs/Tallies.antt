-- Counting hits key by key, and all at once.
use Rattle.std.proofs.Common.{◌≡◌, ℕ, zero, suc, ◌+◌, ◌<◌, Bool, true, false, cond, List, [], ◌∷◌, length, get_or, take, drop, map as list_map, refl, sym, ap, subst, ◌∙◌, arith, nat_lt, Some, None, Option}
use Rattle.std.specs.Prelude.{ℤ, ◌||◌, not, is_some}
use Rattle.std.specs.List.{filter, list_any, sum_by}
use Rattle.std.specs.Option.{option_map_or}
use Rattle.std.specs.declared.cmp.Ordering.TheVariants.{Equal}
use Rattle.std.specs.Ordering.{eq_by_cmp}
use Rattle.std.specs.Map.{keys_of}
use Rattle.std.specs.FinMap as map
use Rattle.std.specs.FinMap.{len-entries}
use Rattle.std.proofs.lemmas.Bool.Decides.{nat_tests}
use Rattle.std.proofs.lemmas.Cmp.{tied_itself}
use Rattle.std.proofs.lemmas.List.{get_or_default, length-map}
use Rattle.std.proofs.Math.Seq.{take-length}
use Rattle.std.proofs.lemmas.List.Sums.{sum_by-cons, sum_by-take-drop}
use Rattle.ft_hits.specs.declared.spot.Spot.{Spot}
use Rattle.ft_hits.specs.Spots.{spot_cmp, spot_same}
use Rattle.ft_fields.specs.declared.key.Part.{Part}
use Rattle.ft_fields.specs.Parts.{same_key}
use Rattle.ft_hits.specs.declared.mark.Mark.{Mark}
use Rattle.ft_hits.specs.Marks.{mark_cmp, mark_cmp_total, mark_same}
use Rattle.ft_table.specs.inner.Ascending.{IsRank}
use Rattle.ft_hits.specs.Hits.{Hits, hits_of, hitcount, first_place}
use Rattle.ft_table.specs.Tabled.{is_first, first_hits, order_of, keys_in, keys_out, is_in}
use Rattle.ft_table.specs.inner.Moves.{others, order_with}
use Rattle.ft_table.specs.Admission.{AllCount, InsideCount, OutsideDrop, WholeCount}
use Rattle.ft_hits.proofs.Flat.{mark, is_equal, same_is, same_back}
use Rattle.ft_table.proofs.FirstPlaces.{of_key, entries-hits_of}
use Rattle.ft_table.proofs.Retained.{keys-retained}
use Rattle.ft_table.proofs.Firsts.{get-first_hits, no_first, order-some, order-found}
use Rattle.ft_table.proofs.Counts.{listed, with-apart}
use Rattle.ft_table.proofs.Members.{none-in, in-with}
use Rattle.ft_table.proofs.Sorted.{rises-keys, rank-found, rank-keys}

-- how many items of a list pass a test
abbrev pub how_many : {A : Type 0} → (A → Bool) → List A → ℕ
how_many p xs = length (filter p xs)

module _ {A : Type 0} where
  none-pass : (p : A → Bool) (xs : List A) → ((x : A) → p x ≡ false) → how_many p xs ≡ 0
  none-pass p [] h = refl
  none-pass p (x ∷ xs) h = ap (λ b. length (cond b (x ∷ filter p xs) (filter p xs))) (h x) ∙ none-pass p xs h

  all-pass : (p : A → Bool) (xs : List A) → ((j : ℕ) (d : A) → j < length xs → p (get_or xs j d) ≡ true) → how_many p xs ≡ length xs
  all-pass p [] h = refl
  all-pass p (x ∷ xs) h =
      ap (λ b. length (cond b (x ∷ filter p xs) (filter p xs))) (h zero x (omega arith))
      ∙ ap suc (all-pass p xs (λ j d lt. h (suc j) d (omega arith)))

  -- what passes, and what doesn't
  pub both-sides : (p : A → Bool) (xs : List A) → how_many p xs + how_many (λ x. not (p x)) xs ≡ length xs
  both-sides p [] = refl
  both-sides p (x ∷ xs) = at (p x) (both-sides p xs) where
    at : (b : Bool) → how_many p xs + how_many (λ x. not (p x)) xs ≡ length xs → length (cond b (x ∷ filter p xs) (filter p xs)) + length (cond (not b) (x ∷ filter (λ x. not (p x)) xs) (filter (λ x. not (p x)) xs)) ≡ suc (length xs)
    at true rest = omega arith
    at false rest = omega arith

  -- of two tests that nothing passes both of
  either-passes : (p q : A → Bool) (xs : List A) → ((x : A) → p x ≡ true → q x ≡ false) → how_many (λ x. p x || q x) xs ≡ how_many p xs + how_many q xs
  either-passes p q [] h = refl
  either-passes p q (x ∷ xs) h = at (p x) (q x) (h x) (either-passes p q xs h) where
    at : (a b : Bool) → (a ≡ true → b ≡ false) → how_many (λ x. p x || q x) xs ≡ how_many p xs + how_many q xs
        → length (cond (a || b) (x ∷ filter (λ x. p x || q x) xs) (filter (λ x. p x || q x) xs)) ≡ length (cond a (x ∷ filter p xs) (filter p xs)) + length (cond b (x ∷ filter q xs) (filter q xs))
    at true true apart rest = let both : true ≡ false = apart refl in cc
    at true false apart rest = omega arith
    at false true apart rest = omega arith
    at false false apart rest = rest

-- a map that keeps the keys that pass has as many
pub len-kept : (hits : Hits) (p : Mark → Bool) → map.len (map.retain_keys hits p) ≡ how_many p (map.keys hits)
len-kept hits p =
    len-entries (map.retain_keys hits p) ∙ sym (length-map (map.entries (map.retain_keys hits p)) (λ e. e.0))
    ∙ ap length (keys-retained mark_cmp_total mark_same hits p)

pub len-keys : (hits : Hits) → map.len hits ≡ length (map.keys hits)
len-keys hits = len-entries hits ∙ sym (length-map (map.entries hits) (λ e. e.0))

-- ---- the hits of a key

abbrev by_place : Mark × List ℤ → Spot × List ℤ
by_place e = (e.0.spot, e.1)

many-of_key : (key : List Part) (es : List (Mark × List ℤ)) → length (of_key key es) ≡ how_many (λ m. same_key m.key key) (keys_of es)
many-of_key key [] = refl
many-of_key key (e ∷ es) = elim (same_key e.0.key key) as (λ b. length (list_map by_place (cond b (e ∷ filter (λ e. same_key e.0.key key) es) (filter (λ e. same_key e.0.key key) es))) ≡ length (cond b (e.0 ∷ filter (λ m. same_key m.key key) (keys_of es)) (filter (λ m. same_key m.key key) (keys_of es)))) [
  | true ↦ ap suc (many-of_key key es)
  | false ↦ many-of_key key es
]

hitcount-many : (hits : Hits) (key : List Part) → hitcount hits key ≡ how_many (λ m. same_key m.key key) (map.keys hits)
hitcount-many hits key = len-entries (hits_of hits key) ∙ ap length (entries-hits_of hits key) ∙ many-of_key key (map.entries hits)

pub all_count : AllCount
all_count hits key = hitcount-many hits key ∙ sym (len-kept hits (λ m. same_key m.key key))

-- ---- each key stands once in the order

first_is : (o : Option Spot) (p : Spot) → option_map_or (eq_by_cmp spot_cmp p) o false ≡ true → o ≡ Some p
first_is None p is = cc
first_is (Some a) p is = ap (λ (q : Spot). Some q) (sym (spot_same p a (is_equal _ is)))

-- a mark among the first hits is its key's first
pub first-listed : (hits : Hits) (m : Mark) → is_some (map.get (first_hits hits) m) ≡ true → first_place hits m.key ≡ Some m.spot
first-listed hits m some = first_is (first_place hits m.key) m.spot (of (is_first hits m) (ap is_some (sym (get-first_hits hits m)) ∙ some)) where
  of : (b : Bool) → is_some (cond b (map.get hits m) None) ≡ true → b ≡ true
  of true h = refl
  of false h = cc

-- another place of the order has another key
pub apart_after : (hits : Hits) (i j : ℕ) (d : Mark) → i < j → j < length (order_of hits) → same_key (get_or (order_of hits) i d).key (get_or (order_of hits) j d).key ≡ false
apart_after hits i j d before within =
    let m : Mark = get_or (order_of hits) i d in
    let first : first_place hits m.key ≡ Some m.spot = first-listed hits m (listed (first_hits hits) i d (omega arith)) in
    let order : order_of hits ≡ order_with hits m = order-some hits m.key m.spot first in
    let tie : (e : Mark) → mark_cmp (get_or (order_of hits) i e) m ≡ Equal = λ e. ap (λ (q : Mark). mark_cmp q m) (get_or_default (order_of hits) i e d (omega arith)) ∙ tied_itself mark_cmp_total m in
    let at : IsRank mark_cmp (order_of hits) m i = rank-found mark_cmp_total (order_of hits) m i (rises-keys (first_hits hits)) (omega arith) tie in
    let away : same_key (get_or (order_with hits m) j d).key m.key ≡ false =
    with-apart hits m i j d (subst (λ ms. IsRank mark_cmp ms m i) order at) (subst (λ (ms : List Mark). j < length ms) order within) (λ e. absurd (omega arith)) in
    same_back m.key (get_or (order_of hits) j d).key ∙ ap (λ (ms : List Mark). same_key (get_or ms j d).key m.key) order ∙ away

-- ---- the hits of the first keys

abbrev key_of : Mark → List Part
key_of m = m.key

-- whether a hit is one of these keys
abbrev is_of : List (List Part) → Mark → Bool
is_of keys m = list_any (same_key m.key) keys

away : (keys : List (List Part)) (key : List Part) → list_any (same_key key) keys ≡ false → (m : Mark) → same_key m.key key ≡ true → is_of keys m ≡ false
away keys key none m same = ap (λ k. list_any (same_key k) keys) (same_is m.key key same) ∙ none

sum-first : (hits : Hits) (ms : List Mark) (s : ℕ) → ((i j : ℕ) (d : Mark) → i < j → j < length ms → same_key (get_or ms i d).key (get_or ms j d).key ≡ false)
    → sum_by (hitcount hits) (list_map key_of (take s ms)) ≡ how_many (is_of (list_map key_of (take s ms))) (map.keys hits)
sum-first hits [] zero apart = sym (none-pass (is_of []) (map.keys hits) (λ m. refl))
sum-first hits [] (suc s) apart = sym (none-pass (is_of []) (map.keys hits) (λ m. refl))
sum-first hits (m ∷ ms) zero apart = sym (none-pass (is_of []) (map.keys hits) (λ m. refl))
sum-first hits (m ∷ ms) (suc s) apart =
    let keys : List (List Part) = list_map key_of (take s ms) in
    let none : list_any (same_key m.key) keys ≡ false = none-in key_of (same_key m.key) ms s (λ j d lt. apart zero (suc j) d (omega arith) (omega arith)) in
    sum_by-cons (hitcount hits) m.key keys
    ∙ (λ i. hitcount-many hits m.key i + sum-first hits ms s (λ i j d lt within. apart (suc i) (suc j) d (omega arith) (omega arith)) i)
    ∙ sym (either-passes (λ q. same_key q.key m.key) (is_of keys) (map.keys hits) (away keys m.key none))

pub inside_count : InsideCount
inside_count table =
    sum-first table.hits (order_of table.hits) table.size (apart_after table.hits)
    ∙ sym (len-kept table.hits (λ m. is_in table m.key))

-- ---- all hits

pub sum-map : {X Y : Type 0} (f : Y → ℕ) (g : X → Y) (xs : List X) → sum_by f (list_map g xs) ≡ sum_by (λ x. f (g x)) xs
sum-map f g [] = refl
sum-map f g (x ∷ xs) = sum_by-cons f (g x) (list_map g xs) ∙ ap (λ n. f (g x) + n) (sum-map f g xs) ∙ sym (sum_by-cons (λ x. f (g x)) x xs)

pub not_none : {X : Type 0} (o : Option X) → is_some o ≡ true → o ≡ None → ⊥
not_none None some none = cc
not_none (Some x) some none = cc

-- each hit's key stands in the order
in_order : (hits : Hits) (m : Mark) → is_some (map.get hits m) ≡ true → is_of (list_map key_of (take (length (order_of hits)) (order_of hits))) m ≡ true
in_order hits m some = by (first_place hits m.key) refl where
  by : (o : Option Spot) → first_place hits m.key ≡ o → is_of (list_map key_of (take (length (order_of hits)) (order_of hits))) m ≡ true
  by None none = absurd (not_none (map.get hits m) some (no_first hits m.key none m.spot))
  by (Some f) is =
      let first : Mark = mark f m.key in
      let at = rank-keys mark_cmp_total (map.insert (others hits m.key) first []) first in
      let order : order_of hits ≡ order_with hits first = order-some hits m.key f is in
      let found = order-found hits first at.0 at.1 in
      let within : at.0 < length (order_of hits) = subst (λ (ms : List Mark). at.0 < length ms) (sym order) found.0 in
      let inside : nat_lt at.0 (length (order_of hits)) ≡ true = grind (arith, nat_tests, within) in
      ap (λ (ms : List Mark). list_any (same_key m.key) (list_map key_of (take (length (order_of hits)) ms))) order
      ∙ in-with hits (length (order_of hits)) first at.0 at.1 ∙ inside

sum-all : (hits : Hits) → sum_by (hitcount hits) (list_map key_of (order_of hits)) ≡ map.len hits
sum-all hits =
    ap (λ (ms : List Mark). sum_by (hitcount hits) (list_map key_of ms)) (sym (take-length (order_of hits)))
    ∙ sum-first hits (order_of hits) (length (order_of hits)) (apart_after hits)
    ∙ all-pass (is_of (list_map key_of (take (length (order_of hits)) (order_of hits)))) (map.keys hits) (λ j d lt. in_order hits (get_or (map.keys hits) j d) (listed hits j d lt))
    ∙ sym (len-keys hits)

pub whole_count : WholeCount
whole_count table =
    let count : List Part → ℕ = hitcount table.hits in
    let order : List Mark = order_of table.hits in
    let weight : Mark → ℕ = λ m. count m.key in
    let inside : sum_by count (list_map key_of (take table.size order)) ≡ sum_by weight (take table.size order) = sum-map count key_of (take table.size order) in
    let outside : sum_by count (list_map key_of (drop table.size order)) ≡ sum_by weight (drop table.size order) = sum-map count key_of (drop table.size order) in
    (λ i. inside i + outside i) ∙ sum_by-take-drop weight order table.size ∙ sym (sum-map count key_of order) ∙ sum-all table.hits

pub outside_drop : OutsideDrop
outside_drop table =
    let test : Mark → Bool = λ m. is_in table m.key in
    let h : ℕ = sum_by (hitcount table.hits) (keys_in table) in
    let d : ℕ = sum_by (hitcount table.hits) (keys_out table) in
    let whole : h + d ≡ length (map.keys table.hits) = whole_count table ∙ len-keys table.hits in
    let inside : h ≡ how_many test (map.keys table.hits) = inside_count table ∙ len-kept table.hits test in
    let sides : how_many test (map.keys table.hits) + how_many (λ m. not (test m)) (map.keys table.hits) ≡ length (map.keys table.hits) = both-sides test (map.keys table.hits) in
    let is : d ≡ how_many (λ m. not (test m)) (map.keys table.hits) = omega (arith, whole, inside, sides) in
    is ∙ sym (len-kept table.hits (λ m. not (is_in table m.key)))
