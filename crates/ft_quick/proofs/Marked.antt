-- Marks of a line's first 64 bytes: what comparisons of all of them tell of each.
use Rattle.std.proofs.Common.{◌≡◌, ◌<◌, ◌≤◌, ◌/◌, ◌%◌, ◌^◌, ℕ, ◌+◌, ◌-◌, Bool, false, true, inl, inr, List, ◌∷◌, ◌++◌, map, take, drop, replicate, length, get_or, cond, ltb, eqb, refl, sym, ap, ap₂, ◌∙◌, ◌&&◌, min, bit_and, arith, subst, w8, w64, Fits, shr-shr}
use Rattle.std.specs.Int.{bit_at, bit_not, trailing_zeros}
use Rattle.std.proofs.Math.Nat.{div-le_self}
use Rattle.std.specs.Simd.Lanes.{zip2, mask_l, top, Each1}
use Rattle.std.proofs.lemmas.Bool.{and_from, eqb-true, eq-eqb, cases_lt, lt-ltb, le-ltb, le-leb, lt-leb}
use Rattle.std.proofs.lemmas.List.{get_or-map, get_or_past, get_or_default, get_or-take, get_or-drop, drop-drop, length-take, get_or_append_left, get_or-append_right, get_or-replicate, length-map, length-append, length-replicate, length-drop, drop-replicate}
use Rattle.std.proofs.lemmas.Nat.Bits.{bit_at-trailing_zeros, bit_at_above, bit_at_not, bit_at_and, bit_at-lt}
use Rattle.std.proofs.lemmas.Simd.{bit_mask_l, bitmask_splat, zip2_splat, mask_l-lt, map-map, Each1-get_or, length-chunk, get_or-chunk}
use Rattle.ft_event.specs.Bytes.{is_digit}
use Rattle.ft_quick.specs.inner.Columns.{ends_task}
use Rattle.ft_quick.specs.inner.Cuts.{IsUntil}
use Rattle.ft_quick.proofs.ColumnCuts.{cut_at}
use Rattle.ft_quick.specs.inner.Marks.{IsFirst, IsMarks, IsNextMark, IsNextOther, IsNextPair}

-- the mask of the lanes that pass
lane_marked : (p : ℕ → Bool) (bytes : List ℕ) (k : ℕ) → k < length bytes → bit_at (mask_l (map p bytes)) k ≡ cond (p (get_or bytes k 0)) 1 0
lane_marked p bytes k within = bit_mask_l (map p bytes) k ∙ ap (λ (b : Bool). cond b 1 0) (get_or-map p bytes k 0 false within)

-- ---- comparisons

pub equal_marked : (bytes : List ℕ) (byte k : ℕ) → length bytes ≡ 64 → k < 64
    → bit_at (mask_l (map (top 7) (zip2 (λ a b. cond (eqb a b) 255 0) bytes (replicate 64 byte))) % 2 ^ 64) k ≡ cond (eqb (get_or bytes k 0) byte) 1 0
equal_marked bytes byte k long within =
    ap (λ (m : ℕ). bit_at m k) (bitmask_splat w8 eqb bytes 64 byte long (omega arith)) ∙ lane_marked (λ x. eqb x byte) bytes k (omega arith)

-- of 32 bytes
pub near_marked : (bytes : List ℕ) (byte : ℕ) → length bytes ≡ 32
    → ((k : ℕ) → k < 32 → bit_at (mask_l (map (top 7) (zip2 (λ a b. cond (eqb a b) 255 0) bytes (replicate 32 byte))) % 2 ^ 64) k ≡ cond (eqb (get_or bytes k 0) byte) 1 0)
    × (mask_l (map (top 7) (zip2 (λ a b. cond (eqb a b) 255 0) bytes (replicate 32 byte))) % 2 ^ 64 < 2 ^ 32)
near_marked bytes byte long =
    let is = bitmask_splat w8 eqb bytes 32 byte long (omega arith) in
    let small : mask_l (map (λ x. eqb x byte) bytes) < 2 ^ 32 = subst (λ (n : ℕ). mask_l (map (λ x. eqb x byte) bytes) < 2 ^ n) (length-map bytes (λ x. eqb x byte) ∙ long) (mask_l-lt (map (λ x. eqb x byte) bytes)) in
    (λ k within. ap (λ (m : ℕ). bit_at m k) is ∙ lane_marked (λ x. eqb x byte) bytes k (omega arith), subst (λ (m : ℕ). m < 2 ^ 32) (sym is) small)

-- a digit less `0` is below 10, and no other byte is
digit_less : (x : ℕ) → x < 256 → ltb ((x + (2 ^ 8 - 48)) % 2 ^ 8) 10 ≡ is_digit x
digit_less x byte = elim (cases_lt x 48) [
  | inl low ↦ rw (le-ltb ((x + (2 ^ 8 - 48)) % 2 ^ 8) 10 (omega arith), lt-leb 48 x low) refl
  | inr from ↦ elim (cases_lt x 58) [
    | inl digit ↦ rw (lt-ltb ((x + (2 ^ 8 - 48)) % 2 ^ 8) 10 (omega arith), le-leb 48 x from, le-leb x 57 (omega arith)) refl
    | inr above ↦ rw (le-ltb ((x + (2 ^ 8 - 48)) % 2 ^ 8) 10 (omega arith), le-leb 48 x from, lt-leb x 57 (omega arith)) refl
  ]
]

abbrev less : ℕ → ℕ → ℕ
less a b = (a + (2 ^ 8 - b)) % 2 ^ 8

pub digits_marked : (bytes : List ℕ) (n k : ℕ) → length bytes ≡ n → n ≤ 64 → Each1 (Fits w8) bytes → k < n
    → bit_at (mask_l (map (top 7) (zip2 (λ a b. cond (ltb a b) 255 0) (zip2 (λ a b. (a + (2 ^ 8 - b)) % 2 ^ 8) bytes (replicate n 48)) (replicate n 10))) % 2 ^ 64) k ≡ cond (is_digit (get_or bytes k 0)) 1 0
digits_marked bytes n k long few fits within =
    let lessened : zip2 less bytes (replicate n 48) ≡ map (λ x. less x 48) bytes = zip2_splat less bytes n 48 long in
    let byte = (Each1-get_or (Fits w8) bytes k 0 (omega arith) fits).fits in
    ap (λ (xs : List ℕ). bit_at (mask_l (map (top 7) (zip2 (λ a b. cond (ltb a b) 255 0) xs (replicate n 10))) % 2 ^ 64) k) lessened
    ∙ ap (λ (m : ℕ). bit_at m k) (bitmask_splat w8 ltb (map (λ x. less x 48) bytes) n 10 (length-map bytes (λ x. less x 48) ∙ long) few ∙ ap mask_l (map-map (λ x. ltb x 10) (λ x. less x 48) bytes))
    ∙ lane_marked (λ x. ltb (less x 48) 10) bytes k (omega arith)
    ∙ ap (λ (b : Bool). cond b 1 0) (digit_less (get_or bytes k 0) byte)

-- ---- the first 64 bytes

from_start : (k : ℕ) → 0 + k ≡ k
from_start k = omega arith

pub first_of_many : (line : List ℕ) → 64 ≤ length line → IsFirst line (take 64 (drop 0 line))
first_of_many line many = record { long = length-chunk 0 64 line many; each = λ k within. get_or-chunk 0 64 line k 0 within ∙ ap (λ (n : ℕ). get_or line n 0) (from_start k) }

-- zeros stand after the line's end, as a read there gives
pub first_of_few : (line now : List ℕ) → length line < 64 → now ≡ line → IsFirst line (take 64 (drop 0 (now ++ drop (length line) (replicate 64 0))))
first_of_few line now few same =
    let zeros : List ℕ = replicate (64 - length line) 0 in
    let is : now ++ drop (length line) (replicate 64 0) ≡ line ++ zeros = ap (λ (front : List ℕ). front ++ drop (length line) (replicate 64 0)) same ∙ ap (λ (rest : List ℕ). line ++ rest) (drop-replicate (length line) 64 0) in
    let len : length (line ++ zeros) ≡ 64 = length-append line zeros ∙ ap (λ (n : ℕ). length line + n) (length-replicate (64 - length line) 0) ∙ omega arith in
    let bytes : (k : ℕ) → k < 64 → get_or (line ++ zeros) k 0 ≡ get_or line k 0 = λ k within. elim (cases_lt k (length line)) [
      | inl here ↦ get_or_append_left line zeros 0 k here
      | inr past ↦ get_or-append_right line zeros _ k 0 refl past ∙ get_or-replicate (64 - length line) (k - length line) 0 0 (omega arith) ∙ sym (get_or_past line k 0 past)
    ] in
    subst (λ (text : List ℕ). IsFirst line (take 64 (drop 0 text))) (sym is) (record {
      long = length-chunk 0 64 (line ++ zeros) (omega arith);
      each = λ k within. get_or-chunk 0 64 (line ++ zeros) k 0 within ∙ ap (λ (n : ℕ). get_or (line ++ zeros) n 0) (from_start k) ∙ bytes k within;
    })

-- ---- the next marked place

pub next_marked : (marks from : ℕ) → marks < 2 ^ 64 → (marks / 2 ^ from ≡ 0 → ⊥) → IsNextMark marks from (from + trailing_zeros w64 (marks / 2 ^ from))
next_marked marks from fits some =
    let left : ℕ = marks / 2 ^ from in
    let small = div-le_self marks (2 ^ from) in
    let lowest = bit_at-trailing_zeros w64 left (omega (arith, some)) (omega (arith, fits)) in
    let place : ℕ = from + trailing_zeros w64 left in
    let bit : (k : ℕ) → bit_at left k ≡ bit_at marks (from + k) = λ k. ap (λ (x : ℕ). x % 2) (shr-shr marks from k) in
    let here : bit_at marks place ≡ 1 = sym (bit (trailing_zeros w64 left)) ∙ lowest.1 in
    record {
      low = omega arith;
      within = elim (cases_lt place 64) [
        | inl within ↦ within
        | inr above ↦ let none = bit_at_above marks 64 place fits above in absurd (omega arith)
      ];
      here = here;
      before = λ k low below.
          let at : from + (k - from) ≡ k = omega arith in
          ap (bit_at marks) (sym at) ∙ sym (bit (k - from)) ∙ lowest.2 (k - from) (omega arith);
    }

pub other_marked : (marks from at : ℕ) → marks < 2 ^ 64 → IsNextMark (bit_not w64 marks) from at → IsNextOther marks from at
other_marked marks from at fits next =
    let other : (k : ℕ) → k < 64 → bit_at (bit_not w64 marks) k ≡ 1 - bit_at marks k = λ k within. bit_at_not w64 marks k fits within in
    record {
      low = next.low;
      within = next.within;
      here = let same = other at next.within in let lt = bit_at-lt marks at in omega (arith, next.here);
      before = λ k low below.
          let same = other k (omega (arith, next.within)) in
          let lt = bit_at-lt marks k in
          let none = next.before k low below in
          omega arith;
    }

next_place : (k : ℕ) → 1 + k ≡ k + 1
next_place k = omega arith

pub pair_marked : (firsts seconds from at : ℕ) → seconds < 2 ^ 64 → IsNextMark (bit_and firsts (seconds / 2 ^ 1)) from at → IsNextPair firsts seconds from at
pair_marked firsts seconds from at fits next =
    let bits : (k : ℕ) → bit_at (bit_and firsts (seconds / 2 ^ 1)) k ≡ min (bit_at firsts k) (bit_at seconds (k + 1)) =
    λ k. bit_at_and firsts (seconds / 2 ^ 1) k ∙ ap (min (bit_at firsts k)) (ap (λ (x : ℕ). x % 2) (shr-shr seconds 1 k) ∙ ap (bit_at seconds) (next_place k)) in
    let first = bit_at-lt firsts at in
    let second = bit_at-lt seconds (at + 1) in
    let both : min (bit_at firsts at) (bit_at seconds (at + 1)) ≡ 1 = sym (bits at) ∙ next.here in
    record {
      low = next.low;
      within = elim (cases_lt at 63) [
        | inl less ↦ less
        | inr last ↦ let none = bit_at_above seconds 64 (at + 1) fits (omega arith) in absurd (omega arith)
      ];
      first = omega arith;
      second = omega arith;
      before = λ k low below. sym (bits k) ∙ next.before k low below;
    }

differ : true ≡ false → ⊥
differ h = cc

-- ---- what the next marked place tells

passes : (b : Bool) (n : ℕ) → n ≡ cond b 1 0 → n ≡ 1 → b ≡ true
passes true n is one = refl
passes false n is one = absurd (omega arith)

fails : (b : Bool) (n : ℕ) → n ≡ cond b 1 0 → n ≡ 0 → b ≡ false
fails true n is none = absurd (omega arith)
fails false n is none = refl

-- the first place that passes
pub record IsFound (p : ℕ → Bool) (from at : ℕ) : Type 0 where
  pub low : from ≤ at
  pub here : p at ≡ true
  pub before : (k : ℕ) → from ≤ k → k < at → p k ≡ false

pub found : (p : ℕ → Bool) (marks from at : ℕ) → IsMarks p marks → IsNextMark marks from at → IsFound p from at
found p marks from at are next = record {
  low = next.low;
  here = passes (p at) (bit_at marks at) (are at next.within) next.here;
  before = λ k low below. fails (p k) (bit_at marks k) (are k (omega (arith, next.within))) (next.before k low below);
}

-- the first place that does not pass
pub record IsEnded (p : ℕ → Bool) (from at : ℕ) : Type 0 where
  pub low : from ≤ at
  pub here : p at ≡ false
  pub before : (k : ℕ) → from ≤ k → k < at → p k ≡ true

pub ended : (p : ℕ → Bool) (marks from at : ℕ) → IsMarks p marks → IsNextOther marks from at → IsEnded p from at
ended p marks from at are next = record {
  low = next.low;
  here = fails (p at) (bit_at marks at) (are at next.within) next.here;
  before = λ k low below. passes (p k) (bit_at marks k) (are k (omega (arith, next.within))) (next.before k low below);
}

both_set : (a b : Bool) → min (cond a 1 0) (cond b 1 0) ≡ cond (a && b) 1 0
both_set true true = refl
both_set true false = refl
both_set false true = refl
both_set false false = refl

-- the first dash that a digit follows
pub dash_found : (line : List ℕ) (dashes digits from at : ℕ) → IsMarks (λ k. eqb (get_or line k 0) 45) dashes → IsMarks (λ k. is_digit (get_or line k 0)) digits
    → IsNextPair dashes digits from at → IsFound (ends_task line) from at
dash_found line dashes digits from at dash digit next = record {
  low = next.low;
  here = and_from _ _ (passes (eqb (get_or line at 0) 45) (bit_at dashes at) (dash at (omega (arith, next.within))) next.first) (passes (is_digit (get_or line (at + 1) 0)) (bit_at digits (at + 1)) (digit (at + 1) (omega (arith, next.within))) next.second);
  before = λ k low below.
      let few = next.within in
      let are : min (bit_at dashes k) (bit_at digits (k + 1)) ≡ cond (ends_task line k) 1 0 = ap₂ min (dash k (omega arith)) (digit (k + 1) (omega arith)) ∙ both_set (eqb (get_or line k 0) 45) (is_digit (get_or line (k + 1) 0)) in
      fails (ends_task line k) (min (bit_at dashes k) (bit_at digits (k + 1))) are (next.before k low below);
}

-- the first byte of its value among the 32 that stand at a place
pub near_found : (line : List ℕ) (byte places at len : ℕ) → at + 32 ≤ length line → ((k : ℕ) → k < 32 → bit_at places k ≡ cond (eqb (get_or (take 32 (drop at line)) k 0) byte) 1 0) → places < 4294967296
    → IsNextMark places 0 len → IsUntil byte (drop at line) (take (at + len - at) (drop at line)) (drop (at + len + 1) line) × (at + len < length line)
near_found line byte places at len room are small next =
    let text : List ℕ = drop at line in
    let long = length-drop at line in
    let near : len < 32 = elim (cases_lt len 32) [
      | inl less ↦ less
      | inr past ↦ let none = bit_at_above places 32 len small past in let one = next.here in absurd (omega arith)
    ] in
    let read : (k : ℕ) → k < 32 → bit_at places k ≡ cond (eqb (get_or text k 0) byte) 1 0 = λ k within. are k within ∙ ap (λ (x : ℕ). cond (eqb x byte) 1 0) (get_or-take 32 text k 0 within) in
    let here : get_or text len 0 ≡ byte = eqb-true _ _ (passes (eqb (get_or text len 0) byte) (bit_at places len) (read len near) next.here) in
    let count : at + len - at ≡ len = omega arith in
    let place : at + (len + 1) ≡ at + len + 1 = omega arith in
    let rest : drop (len + 1) text ≡ drop (at + len + 1) line = drop-drop (len + 1) at line ∙ ap (λ (n : ℕ). drop n line) place in
    let front : List ℕ = take len text in
    let whole = length-take len text in
    let until : IsUntil byte text front (drop (at + len + 1) line) = record {
      joined = cut_at text len byte (omega arith) here ∙ ap (λ (r : List ℕ). front ++ byte ∷ r) rest;
      first = λ hit.
          let before : hit.0 < len = omega (arith, hit.1) in
          let value : get_or text hit.0 0 ≡ byte = get_or_default text hit.0 0 byte (omega arith) ∙ sym (get_or-take len text hit.0 byte before) ∙ hit.2 in
          let none = fails (eqb (get_or text hit.0 0) byte) (bit_at places hit.0) (read hit.0 (omega arith)) (next.before hit.0 (omega arith) before) in
          differ (sym (eq-eqb _ _ value) ∙ none);
    } in
    (subst (λ (n : ℕ). IsUntil byte text (take n text) (drop (at + len + 1) line)) (sym count) until, omega arith)

-- the digits among the eight bytes that stand at a place
pub digits_near : (line : List ℕ) (places at len : ℕ) → ((k : ℕ) → k < 8 → bit_at places k ≡ cond (is_digit (get_or (take 8 (drop at line)) k 0)) 1 0) → IsNextOther places 0 len → len ≤ 7
    → (k : ℕ) → at ≤ k → k < at + len → is_digit (get_or line k 0) ≡ true
digits_near line places at len are next few k low below =
    let place : ℕ = k - at in
    let back : at + place ≡ k = omega arith in
    let digit = passes (is_digit (get_or (take 8 (drop at line)) place 0)) (bit_at places place) (are place (omega arith)) (next.before place (omega arith) (omega arith)) in
    ap is_digit (ap (λ (n : ℕ). get_or line n 0) (sym back) ∙ sym (get_or-drop at line place 0) ∙ sym (get_or-take 8 (drop at line) place 0 (omega arith))) ∙ digit
