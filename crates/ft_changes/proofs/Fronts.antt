-- Fronts and ends of a list, and of what a test leaves of it.
use Rattle.std.proofs.Common.{◌≡◌, ℕ, ◌+◌, ◌-◌, ◌≤◌, Bool, true, false, List, [], ◌++◌, min, length, take, drop, refl, sym, ap, ◌∙◌, arith, inl, inr}
use Rattle.std.specs.Prelude.{◌||◌, not}
use Rattle.std.specs.List.{filter, list_any, IsDistinct}
use Rattle.std.proofs.lemmas.Bool.{cases_lt, or_parts, or_right, not_from_false}
use Rattle.std.proofs.lemmas.List.{length-take, length-drop, take-append-drop, take_all, take-take, drop_all, drop-drop, drop-take, get_or-drop}
use Rattle.std.proofs.lemmas.List.Elements.{filter-append}
use Rattle.std.proofs.lemmas.List.Filters.{length-filter_both}
use Rattle.std.proofs.lemmas.List.Folds.{list_any-append}
use Rattle.std.proofs.lemmas.List.Kept.{AllPairs-filter}
use Rattle.std.proofs.lemmas.Map.Keys.{apart_from_distinct, IsDistinct-from_apart}
use Rattle.std.proofs.lemmas.Map.Views.{any-filter_same}
use Rattle.std.proofs.Math.Bool.{or-false}
use Rattle.std.proofs.Math.Seq.{take-append_seam, drop-append-add, take-nil, drop-nil}

-- ---- parts of a list whose items are apart

module _ {X : Type 0} (e : X → X → Bool) where
  pub distinct-filter : (p : X → Bool) (xs : List X) → IsDistinct e xs → IsDistinct e (filter p xs)
  distinct-filter p xs apart = IsDistinct-from_apart e (filter p xs) (AllPairs-filter (λ x y. e x y ≡ false) p xs (λ i j d lt within. apart_from_distinct e xs i j d apart lt within))

  pub distinct-drop : (u : ℕ) (xs : List X) → IsDistinct e xs → IsDistinct e (drop u xs)
  distinct-drop u xs apart = IsDistinct-from_apart e (drop u xs) (λ i j d lt within.
      let rest = length-drop u xs in
      (λ k. e (get_or-drop u xs i d k) (get_or-drop u xs j d k))
      ∙ apart_from_distinct e xs (u + i) (u + j) d apart (omega arith) (omega (arith, rest)))

-- ---- what is found in a part

module _ {X : Type 0} (t : X → Bool) where
  in_parts : (n : ℕ) (xs : List X) → (list_any t (take n xs) || list_any t (drop n xs)) ≡ list_any t xs
  in_parts n xs = sym (list_any-append t (take n xs) (drop n xs)) ∙ ap (list_any t) (take-append-drop n xs)

  pub in_end : (n : ℕ) (xs : List X) → list_any t (drop n xs) ≡ true → list_any t xs ≡ true
  in_end n xs is = sym (in_parts n xs) ∙ or_right (list_any t (take n xs)) (list_any t (drop n xs)) is

  pub in_front : (n : ℕ) (xs : List X) → list_any t (take n xs) ≡ true → list_any t xs ≡ true
  in_front n xs is = sym (in_parts n xs) ∙ ap (λ b. b || list_any t (drop n xs)) is

  none_in_end : (n : ℕ) (xs : List X) → list_any t xs ≡ false → list_any t (drop n xs) ≡ false
  none_in_end n xs none = let both = or_parts (list_any t (take n xs)) (list_any t (drop n xs)) (in_parts n xs ∙ none) in both.1

  -- what isn't at the end is in front, if it is there
  in_front_alone : (n : ℕ) (xs : List X) → list_any t (drop n xs) ≡ false → list_any t (take n xs) ≡ list_any t xs
  in_front_alone n xs none = sym (or-false (list_any t (take n xs))) ∙ ap (λ b. list_any t (take n xs) || b) (sym none) ∙ in_parts n xs

-- ---- what a test leaves

module _ {X : Type 0} (out : X → Bool) where
  abbrev pub left : List X → List X
  left = filter (λ x. not (out x))

  left-parts : (n : ℕ) (xs : List X) → left xs ≡ left (take n xs) ++ left (drop n xs)
  left-parts n xs = ap left (sym (take-append-drop n xs)) ∙ filter-append (λ x. not (out x)) (take n xs) (drop n xs)

  -- what is left of a front is a front of what is left
  left-front : (n : ℕ) (xs : List X) → take (length (left (take n xs))) (left xs) ≡ left (take n xs)
  left-front n xs = ap (take (length (left (take n xs)))) (left-parts n xs) ∙ take-append_seam (left (take n xs)) (left (drop n xs))

  both_sides : (xs : List X) → length (filter out xs) + length (left xs) ≡ length xs
  both_sides xs = length-filter_both out (λ x. not (out x)) (λ x. refl) xs

  module _ (t : X → Bool) (stays : (x : X) → t x ≡ true → out x ≡ false) (xs : List X) (s n : ℕ) (few : length (filter out (take s xs)) ≤ n) (none : list_any t (drop (s - n) (take s (left xs))) ≡ false) where
    -- how many of the first ones are left
    abbrev many : ℕ
    many = length (left (take s xs))

    within : many ≤ s
    within = let sides = both_sides (take s xs) in let len = length-take s xs in omega (arith, sides, len)

    none_behind : list_any t (drop many (take s (left xs))) ≡ false
    none_behind = elim (cases_lt (length xs) s) [
      | inl lt ↦
          let all : many ≡ length (left xs) = ap (λ (ys : List X). length (left ys)) (take_all s xs (omega arith)) in
          let len = length-take s (left xs) in
          ap (list_any t) (drop_all many (take s (left xs)) (omega (arith, all, len)))
      | inr le ↦
          let sides = both_sides (take s xs) in
          let len = length-take s xs in
          let more : (s - n) + (many - (s - n)) ≡ many = omega (arith, sides, len, few) in
          ap (λ m. list_any t (drop m (take s (left xs)))) (sym more) ∙ ap (list_any t) (sym (drop-drop (many - (s - n)) (s - n) (take s (left xs))))
          ∙ none_in_end t (many - (s - n)) (drop (s - n) (take s (left xs))) none
    ]

    -- what isn't at the last places of those left, as many as are out, is among the first of all if and only if it is among the first of those
    pub first_of_left : list_any t (take s xs) ≡ list_any t (take s (left xs))
    first_of_left =
        sym (any-filter_same t (λ x. not (out x)) true (λ x is. not_from_false (out x) (stays x is)) (take s xs))
        ∙ ap (list_any t) (sym (left-front s xs) ∙ sym (take-take many s (left xs) within))
        ∙ in_front_alone t many (take s (left xs)) none_behind

-- a part of a list of two, of which the first ends before it
window : {X : Type 0} (front back : List X) (u passed few s : ℕ) → length front + passed ≡ u → u + few ≡ s → drop u (take s (front ++ back)) ≡ take few (drop passed back)
window front back u passed few s starts ends =
    ap (λ n. drop u (take n (front ++ back))) (sym ends) ∙ drop-take u few (front ++ back)
    ∙ ap (λ n. take few (drop n (front ++ back))) (sym starts) ∙ ap (take few) (drop-append-add front back passed)

-- a part of no list is none
pub nothing : {X : Type 0} (few passed : ℕ) → ◌≡◌ {A = List X} (take few (drop passed [])) []
nothing few passed = ap (take few) (drop-nil passed) ∙ take-nil few

-- the last places of those left are found from the place where they start among all, if those out before it are counted
pub last_of_left : {X : Type 0} (out : X → Bool) (xs : List X) (n s few start passed : ℕ) → few ≡ min n s → start ≡ min (s - few) (length xs) → passed ≡ length (filter out (take start xs))
    → take few (drop passed (left out (drop start xs))) ≡ drop (s - n) (take s (left out xs))
last_of_left {X} out xs n s few start passed least from count = elim (cases_lt (length xs) (s - n)) [
  | inl lt ↦
      let all : start ≡ length xs = omega (arith, least, from) in
      let none = drop_all start xs (omega (arith, all)) in
      let sides = both_sides out xs in
      let len = length-take s (left out xs) in
      ap (λ (ys : List X). take few (drop passed (left out ys))) none ∙ nothing few passed
      ∙ sym (drop_all (s - n) (take s (left out xs)) (omega (arith, sides, len)))
  | inr le ↦
      let is : start ≡ s - n = omega (arith, least, from) in
      let sides = both_sides out (take start xs) in
      let len = length-take start xs in
      sym (ap (λ (ys : List X). drop (s - n) (take s ys)) (left-parts out start xs)
      ∙ window (left out (take start xs)) (left out (drop start xs)) (s - n) passed few s (omega (arith, is, sides, len, count)) (omega (arith, least)))
]
