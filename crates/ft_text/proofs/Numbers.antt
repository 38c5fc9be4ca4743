-- Digits read from the left, one by one, and those that a number is written in.
use Rattle.std.proofs.Common.{◌≡◌, ◌<◌, ℕ, ◌+◌, ◌-◌, ◌*◌, ◌%◌, ◌^◌, true, List, [], ◌∷◌, ◌++◌, take, length, get_or, None, arith, refl, ◌∙◌, nat_le, le-leb, decimal}
use Rattle.std.specs.List.{list_all}
use Rattle.std.specs.Int.{IsInRange}
use Rattle.std.specs.Char.{is_ascii_digit}
use Rattle.std.specs.Str.Parse.{digits_value}
use Rattle.std.proofs.lemmas.Bool.{lt-leb, and_from, and_right}
use Rattle.std.proofs.lemmas.Bool.Decides.{nat_tests}
use Rattle.std.proofs.lemmas.Str.{digit_value_digit}
use Rattle.std.proofs.lemmas.Str.Parse.{digits_value-take-le}
use Rattle.std.proofs.lemmas.Int.Digits.{digits_value_more}
use Rattle.std.proofs.lemmas.Fmt.{decimal_by_steps}
use Rattle.std.proofs.lemmas.List.Folds.{list_all-append}
use Rattle.ft_text.specs.Digits.{number_within}

-- a digit is between `0` and `9`
pub digit_range : (c : ℕ) → is_ascii_digit c ≡ true → IsInRange 48 57 c
digit_range c h = grind (arith, nat_tests)

-- a decimal digit is a digit
digit : (m : ℕ) → m < 10 → is_ascii_digit (48 + m) ≡ true
digit m low = and_from _ _ (le-leb 48 (48 + m) (omega arith)) (le-leb (48 + m) 57 (omega arith))

-- one digit more
one_digit : (m : ℕ) (ds : List ℕ) → list_all is_ascii_digit ds ≡ true → m < 10 → list_all is_ascii_digit (ds ++ ((48 + m) ∷ [])) ≡ true
one_digit m ds all low = list_all-append is_ascii_digit ds ((48 + m) ∷ []) ∙ and_from _ _ all (and_from _ _ (digit m low) refl)

-- a number is written in digits
pub digits_all : (n : ℕ) → n < 2 ^ 64 → list_all is_ascii_digit (decimal n) ≡ true
digits_all n lt =
    decimal_by_steps (λ m ds. list_all is_ascii_digit ds ≡ true) (λ m low. one_digit m [] refl low)
    (λ m ds high all. one_digit (m % 10) ds all (omega arith)) n lt

-- one more digit
pub next_digit : (text : List ℕ) (i : ℕ) → i < length text → is_ascii_digit (get_or text i 0) ≡ true → digits_value 10 (take (i + 1) text) ≡ digits_value 10 (take i text) * 10 + (get_or text i 0 - 48)
next_digit text i within digit =
    let range : IsInRange 48 57 (get_or text i 0) = digit_range _ digit in
    omega (arith, digits_value_more 10 text i within, digit_value_digit (get_or text i 0) range, range)

-- a number above the limit
pub number_within-above : (limit : ℕ) (text : List ℕ) → limit < digits_value 10 text → number_within limit text ≡ None
unfolding number_within
number_within-above limit text above = rw (and_right (list_all is_ascii_digit text) (nat_le (digits_value 10 text) limit) (lt-leb _ _ above)) refl

-- a number that has passed the limit stays above it
pub past_limit : (limit : ℕ) (text : List ℕ) (i : ℕ) → limit < digits_value 10 (take i text) → number_within limit text ≡ None
past_limit limit text i above =
    let le = digits_value-take-le 10 text i (omega arith) in
    number_within-above limit text (omega arith)
