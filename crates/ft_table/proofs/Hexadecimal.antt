-- Hexadecimal digits from the left: those of the number without its last digit, then that digit.
use Rattle.std.proofs.Common.{◌≡◌, ℕ, zero, suc, ◌/◌, ◌%◌, ◌*◌, ◌^◌, ◌<◌, ◌≤◌, Bool, true, false, List, [], ◌∷◌, ◌++◌, refl, sym, ap, ◌∙◌, arith, if◌then◌else◌}
use Rattle.std.specs.Prelude.{◌==◌}
use Rattle.std.proofs.lemmas.Bool.{eqb-true, eqb-false}
use native.Mathlib.Numerals.{unary_clauses}
use Rattle.std.specs.Fmt.{digits, digits_onto, digit_glyph}

-- the digits that are found are put before what is there
onto_more : (k n : ℕ) (acc more : List ℕ) → digits_onto k 16 false n (acc ++ more) ≡ digits_onto k 16 false n acc ++ more
onto_more zero n acc more = refl
onto_more (suc k) n acc more = from (n / 16 == 0) (onto_more k (n / 16) (digit_glyph false (n % 16) ∷ acc) more)
  where
    from : (last : Bool) → digits_onto k 16 false (n / 16) (digit_glyph false (n % 16) ∷ (acc ++ more)) ≡ digits_onto k 16 false (n / 16) (digit_glyph false (n % 16) ∷ acc) ++ more
        → (if last then digit_glyph false (n % 16) ∷ (acc ++ more) else digits_onto k 16 false (n / 16) (digit_glyph false (n % 16) ∷ (acc ++ more)))
        ≡ (if last then digit_glyph false (n % 16) ∷ acc else digits_onto k 16 false (n / 16) (digit_glyph false (n % 16) ∷ acc)) ++ more
    from true rest = refl
    from false rest = rest

-- a number of j digits at most takes no more than j of them
onto_enough : (j k n : ℕ) (acc : List ℕ) → n < 16 ^ j → j ≤ k → 0 < k → digits_onto (suc k) 16 false n acc ≡ digits_onto k 16 false n acc
onto_enough j zero n acc small room some = absurd (omega arith)
onto_enough j (suc k) n acc small room some = from j small room (n / 16 == 0) refl (λ i fits fewer more. onto_enough i k (n / 16) (digit_glyph false (n % 16) ∷ acc) fits fewer more)
  where
    from : (j : ℕ) → n < 16 ^ j → j ≤ suc k → (last : Bool) → (n / 16 == 0) ≡ last
        → ((i : ℕ) → n / 16 < 16 ^ i → i ≤ k → 0 < k → digits_onto (suc k) 16 false (n / 16) (digit_glyph false (n % 16) ∷ acc) ≡ digits_onto k 16 false (n / 16) (digit_glyph false (n % 16) ∷ acc))
        → (if last then digit_glyph false (n % 16) ∷ acc else digits_onto (suc k) 16 false (n / 16) (digit_glyph false (n % 16) ∷ acc))
        ≡ (if last then digit_glyph false (n % 16) ∷ acc else digits_onto k 16 false (n / 16) (digit_glyph false (n % 16) ∷ acc))
    from j small room true is rest = refl
    from zero small room false is rest = absurd (eqb-false (n / 16) 0 is (omega (arith, small)))
    from (suc zero) small room false is rest = absurd (eqb-false (n / 16) 0 is (omega (arith, small)))
    from (suc (suc i)) small room false is rest =
        let tenfold : 16 ^ suc (suc i) ≡ 16 ^ suc i * 16 = simp unary_clauses in
        rest (suc i) (omega (arith, tenfold, small)) (omega arith) (omega arith)

-- one more digit
pub hexadecimal-step : (n : ℕ) → 16 ≤ n → n < 2 ^ 64 → digits 16 false n ≡ digits 16 false (n / 16) ++ (digit_glyph false (n % 16) ∷ [])
unfolding digits
hexadecimal-step n large small = from (n / 16 == 0) refl
  where
    from : (last : Bool) → (n / 16 == 0) ≡ last
        → (if last then digit_glyph false (n % 16) ∷ [] else digits_onto 63 16 false (n / 16) (digit_glyph false (n % 16) ∷ [])) ≡ digits_onto 64 16 false (n / 16) [] ++ (digit_glyph false (n % 16) ∷ [])
    from true is = absurd (let none : n / 16 ≡ 0 = eqb-true (n / 16) 0 is in omega arith)
    from false is =
        onto_more 63 (n / 16) [] (digit_glyph false (n % 16) ∷ [])
        ∙ ap (λ (t : List ℕ). t ++ (digit_glyph false (n % 16) ∷ [])) (sym (onto_enough 16 63 (n / 16) [] (omega (arith, small)) (omega arith) (omega arith)))
