-- Digits of any count, whose value is capped past every limit.
use Rattle.std.proofs.Common.{◌≡◌, ◌≤◌, ◌<◌, ℕ, ◌+◌, ◌-◌, ◌*◌, true, false, inl, inr, List, take, length, get_or, Some, refl, ap, ◌∙◌, subst, arith}
use Rattle.std.proofs.lemmas.Bool.{cases_Bool, cases_lt, eq-eqb, le-leb, lt-leb, both_ways}
use Rattle.std.proofs.lemmas.List.{take_all}
use Rattle.std.proofs.lemmas.List.Folds.{list_all_at}
use Rattle.std.specs.Prelude.{min}
use Rattle.std.specs.List.{list_all}
use Rattle.std.specs.Str.Parse.{digits_value}
use Rattle.ft_event.specs.Bytes.{is_digit}
use Rattle.ft_event.specs.Spans.{limited_number}
use Rattle.ft_event.specs.Parts.{is_digits}
use Rattle.ft_event.specs.inner.Steps.{up_to}
use Rattle.ft_event.proofs.Digits.{next_digit, limited_number-within, limited_number-above}
use Rattle.ft_event.proofs.Numbers.{digits_pass, digits_passed}

-- no bytes are no number
pub empty_fails : (text : List ℕ) → length text ≡ 0 → is_digits text ≡ false
unfolding is_digits
empty_fails text none = let e = eq-eqb (length text) 0 none in rw e refl

-- a byte that is no digit fails
pub other_fails : (text : List ℕ) (i : ℕ) → i < length text → is_digit (get_or text i 0) ≡ false → is_digits text ≡ false
other_fails text i within other =
    elim (cases_Bool (is_digits text)) [
      | inl e ↦ absurd (both_ways _ (list_all_at is_digit text i 0 within other) (digits_passed text e).1)
      | inr e ↦ e
    ]

-- digits to the end pass
pub all_pass : (text : List ℕ) (i : ℕ) → 0 < length text → length text ≤ i → list_all is_digit (take i text) ≡ true → is_digits text ≡ true
all_pass text i some past digits = digits_pass text (some, subst (λ (t : List ℕ). list_all is_digit t ≡ true) (take_all i text past) digits)

-- one more digit of a value that may be capped
capped : (v d : ℕ) → min (min v 4294967296 * 10 + d) 4294967296 ≡ min (v * 10 + d) 4294967296
capped v d = omega arith

pub next_capped : (text : List ℕ) (i number byte : ℕ) → i < length text → is_digit (get_or text i 0) ≡ true → number ≡ min (digits_value 10 (take i text)) 4294967296
    → byte ≡ get_or text i 0 - 48 → min (number * 10 + byte) 4294967296 ≡ min (digits_value 10 (take (i + 1) text)) 4294967296
next_capped text i number byte within digit is same =
    let more : digits_value 10 (take (i + 1) text) ≡ digits_value 10 (take i text) * 10 + byte = omega (arith, next_digit text i within digit) in
    rw (is, more) (capped (digits_value 10 (take i text)) byte)

-- within a limit the capped value tells the number
pub capped_number : (text : List ℕ) (i number limit : ℕ) → length text ≤ i → list_all is_digit (take i text) ≡ true → number ≡ min (digits_value 10 (take i text)) 4294967296
    → limit < 4294967296 → limited_number limit text ≡ up_to limit number
capped_number text i number limit past digits is below =
    let whole : take i text ≡ text = take_all i text past in
    let all : list_all is_digit text ≡ true = subst (λ (t : List ℕ). list_all is_digit t ≡ true) whole digits in
    let value : number ≡ min (digits_value 10 text) 4294967296 = is ∙ ap (λ (t : List ℕ). min (digits_value 10 t) 4294967296) whole in
    elim (cases_lt limit (digits_value 10 text)) [
      | inl above ↦
          let e = lt-leb number limit (omega arith) in
          limited_number-above limit text above ∙ rw e refl
      | inr within ↦
          let same : digits_value 10 text ≡ number = omega arith in
          let e = le-leb number limit (omega arith) in
          limited_number-within limit text all within ∙ rw e (ap (λ (n : ℕ). Some n) same)
    ]
