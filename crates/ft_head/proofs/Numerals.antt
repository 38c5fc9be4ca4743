-- Numbers and sizes as texts spell them, and how they are read.
use Rattle.std.proofs.Common.{◌≡◌, ◌≤◌, ◌<◌, ◌^◌, ◌&&◌, ℕ, Bool, true, false, not, List, length, Some, None, refl, sym, ◌∙◌, subst, arith, decimal, cond, le-leb, leb-true, ne_eqb, ◌==◌}
use Rattle.std.proofs.lemmas.Bool.{and_parts, and_from, and_right, not-true, not_from_false, leb-false, lt-leb, eqb-false}
use Rattle.std.proofs.lemmas.Fmt.{decimal_is_IsNumeral, decimal_nonempty}
use Rattle.std.proofs.lemmas.Option.{cond_some}
use Rattle.std.specs.Prelude.{nat_le, ◌↔◌}
use Rattle.std.specs.Char.{is_ascii_digit}
use Rattle.std.specs.List.{list_all}
use Rattle.std.specs.Str.Parse.{digits_value}
use Rattle.ft_text.proofs.Numbers.{digits_all}
use Rattle.ft_text.specs.Tokens.{is_in_name}
use Rattle.ft_head.specs.Draft.{rounded, is_size, size_of}
use Rattle.ft_head.specs.Sizes.{IsSize}
use Rattle.ft_text.specs.Items.{is_number, number_in}
use Rattle.ft_text.proofs.Separators.{is_bare, all_weaker, names_bare}
use Rattle.ft_head.proofs.Rounding.{rounded_power, rounded_reached, rounded_least}

-- a digit is a byte of a name
digit_in_name : (byte : ℕ) → is_ascii_digit byte ≡ true → is_in_name byte ≡ true
digit_in_name byte h = rw h refl

-- digits can stand in an item
pub decimal_bare : (n : ℕ) → n < 2 ^ 64 → list_all is_bare (decimal n) ≡ true
decimal_bare n lt = names_bare (decimal n) (all_weaker is_ascii_digit is_in_name digit_in_name (decimal n) (digits_all n lt))

-- a number that is written within the range is read
in_range_again : (least most n : ℕ) (text : List ℕ) → is_number text ≡ true → digits_value 10 text ≡ n → nat_le least n ≡ true → nat_le n most ≡ true → number_in least most text ≡ Some n
unfolding number_in
in_range_again least most n text form value low high = rw (form, value, low, high) refl

-- a number is written in one or more digits, whose value it is
number_form : (n : ℕ) → n < 2 ^ 64 → (is_number (decimal n) ≡ true) × (digits_value 10 (decimal n) ≡ n)
number_form n lt =
    let some : (length (decimal n) == 0) ≡ false = (let le = decimal_nonempty n lt in ne_eqb (length (decimal n)) 0 (λ e. omega arith)) in
    (and_from _ _ (not_from_false (length (decimal n) == 0) some) (digits_all n lt), (decimal_is_IsNumeral n lt).1)

-- so a number of the range is read
pub number_again : (least most n : ℕ) → nat_le least n ≡ true → nat_le n most ≡ true → n < 2 ^ 64 → number_in least most (decimal n) ≡ Some n
number_again least most n low high lt =
    let form = number_form n lt in
    in_range_again least most n (decimal n) form.0 form.1 low high

-- a number that is read is of the range
pub number_parts : (least most n : ℕ) (text : List ℕ) → number_in least most text ≡ Some n → (nat_le least n ≡ true) × (nat_le n most ≡ true)
unfolding number_in
number_parts least most n text e =
    let found = cond_some (is_number text && (nat_le least (digits_value 10 text) && nat_le (digits_value 10 text) most)) (digits_value 10 text) n e in
    let range = and_parts (is_number text) (nat_le least (digits_value 10 text) && nat_le (digits_value 10 text) most) found.0 in
    let both = and_parts (nat_le least (digits_value 10 text)) (nat_le (digits_value 10 text) most) range.1 in
    subst (λ (m : ℕ). (nat_le least m ≡ true) × (nat_le m most ≡ true)) found.1 both

-- the size is one that is read
pub record SizeFits (size : ℕ) : Type 0 where
  pub reads : size_of (decimal size) ≡ Some size
  pub bare : list_all is_bare (decimal size) ≡ true

-- a power of 2 is rounded up to itself
power_again : (k : ℕ) → rounded (2 ^ k) ≡ 2 ^ k
power_again k =
    let least = rounded_least (2 ^ k) k (omega arith) in
    let reached = rounded_reached (2 ^ k) in
    omega arith

-- what a text of such digits writes, if its number is rounded so
written_again : (n size : ℕ) (text : List ℕ) → is_number text ≡ true → digits_value 10 text ≡ n → rounded n ≡ size → is_size size ≡ true → size_of text ≡ Some size
written_again n size text form value same sized = rw (form, value, same, sized) refl

-- a power of 2 that a table may have as its size is read
power_fits : (k : ℕ) → is_size (2 ^ k) ≡ true → SizeFits (2 ^ k)
power_fits k sized =
    let high = leb-true (2 ^ k) 131072 (and_parts (nat_le 128 (2 ^ k)) (nat_le (2 ^ k) 131072) sized).1 in
    let form = number_form (2 ^ k) (omega arith) in
    record { reads = written_again (2 ^ k) (2 ^ k) (decimal (2 ^ k)) form.0 form.1 (power_again k) sized; bare = decimal_bare (2 ^ k) (omega arith) }

-- what stands after a size that is read
pub size_parts : (text : List ℕ) (size : ℕ) → size_of text ≡ Some size → (is_number text ≡ true) × (is_size size ≡ true) × (rounded (digits_value 10 text) ≡ size)
size_parts text size e =
    let found = cond_some (is_number text && is_size (rounded (digits_value 10 text))) (rounded (digits_value 10 text)) size e in
    let test = and_parts (is_number text) (is_size (rounded (digits_value 10 text))) found.0 in
    (test.0, subst (λ (s : ℕ). is_size s ≡ true) found.1 test.1, found.1)

-- a size that is read is one that is read again
pub size_fits : (text : List ℕ) (size : ℕ) → size_of text ≡ Some size → SizeFits size
size_fits text size e =
    let parts = size_parts text size e in
    let power = rounded_power (digits_value 10 text) in
    let same : 2 ^ power.0 ≡ size = sym power.1 ∙ parts.2 in
    subst SizeFits same (power_fits power.0 (subst (λ (s : ℕ). is_size s ≡ true) (sym same) parts.1))

-- the size of a trigger that names none is one that is read
pub default_fits : SizeFits 2048
default_fits = power_fits 11 refl

-- ---- sizes, told by what they are

-- a size that is read is the one that its text tells
size_told : (text : List ℕ) (size : ℕ) → size_of text ≡ Some size → IsSize text size
size_told text size e =
    let parts = size_parts text size e in
    let digits = and_parts (not (length text == 0)) (list_all is_ascii_digit text) parts.0 in
    let power = rounded_power (digits_value 10 text) in
    let range = and_parts (nat_le 128 size) (nat_le size 131072) parts.1 in
    record {
      some = (let apart = eqb-false (length text) 0 (not-true (length text == 0) digits.0) in omega arith);
      digits = digits.1;
      power = (power.0, sym parts.2 ∙ power.1);
      reached = subst (λ (s : ℕ). digits_value 10 text ≤ s) parts.2 (rounded_reached (digits_value 10 text));
      least = λ k high. subst (λ (s : ℕ). s ≤ 2 ^ k) parts.2 (rounded_least (digits_value 10 text) k high);
      least_size = leb-true 128 size range.0;
      most_size = leb-true size 131072 range.1;
    }

-- a number is rounded up to the power of 2 that it tells
told_rounded : (n size k : ℕ) → size ≡ 2 ^ k → n ≤ size → ((j : ℕ) → n ≤ 2 ^ j → size ≤ 2 ^ j) → rounded n ≡ size
told_rounded n size k is high lowest =
    let power = rounded_power n in
    let least : rounded n ≤ size = rw is (rounded_least n k (rw is at high)) in
    let reached : size ≤ rounded n = rw power.1 (lowest power.0 (rw power.1 at (rounded_reached n))) in
    omega arith

-- the size that a text tells is read
told_size : (text : List ℕ) (size : ℕ) → IsSize text size → size_of text ≡ Some size
told_size text size h =
    let some : (length text == 0) ≡ false = (let more = h.some in ne_eqb (length text) 0 (λ e. omega arith)) in
    written_again (digits_value 10 text) size text (and_from _ _ (not_from_false (length text == 0) some) h.digits) refl
    (told_rounded (digits_value 10 text) size h.power.0 h.power.1 h.reached h.least)
    (and_from _ _ (le-leb 128 size h.least_size) (le-leb size 131072 h.most_size))

-- a text is read as a size exactly if it tells it
pub one_size : (text : List ℕ) (size : ℕ) → (size_of text ≡ Some size) ↔ IsSize text size
one_size text size = (size_told text size, told_size text size)

-- ---- sizes, as the code finds them

-- what is no number up to the greatest size is no size
pub size_none : (text : List ℕ) → number_in 0 131072 text ≡ None → size_of text ≡ None
unfolding number_in
size_none text e = from (is_number text) (nat_le (digits_value 10 text) 131072) refl refl
    (rw (le-leb 0 (digits_value 10 text) (omega arith)) at e)
  where
    from : (number within : Bool) → is_number text ≡ number → nat_le (digits_value 10 text) 131072 ≡ within
        → cond (is_number text && nat_le (digits_value 10 text) 131072) (Some (digits_value 10 text)) None ≡ None → size_of text ≡ None
    from false within is low e = rw is refl
    from true true is low e = absurd (let some = rw (is, low) at e in cc)
    from true false is low e =
        let above = leb-false (digits_value 10 text) 131072 low in
        let reached = rounded_reached (digits_value 10 text) in
        let large : nat_le (rounded (digits_value 10 text)) 131072 ≡ false = lt-leb (rounded (digits_value 10 text)) 131072 (omega arith) in
        rw (is, and_right (nat_le 128 (rounded (digits_value 10 text))) (nat_le (rounded (digits_value 10 text)) 131072) large) refl

-- what a number up to the greatest size is rounded up to is no greater
pub rounded_most : (n : ℕ) → n ≤ 131072 → rounded n ≤ 131072
rounded_most n low = rounded_least n 17 low

-- what stands after a number up to the greatest size
number_up_to : (text : List ℕ) (n : ℕ) → number_in 0 131072 text ≡ Some n → (is_number text ≡ true) × (digits_value 10 text ≡ n) × (n ≤ 131072)
unfolding number_in
number_up_to text n e =
    let found = cond_some (is_number text && (nat_le 0 (digits_value 10 text) && nat_le (digits_value 10 text) 131072)) (digits_value 10 text) n e in
    let test = and_parts (is_number text) (nat_le 0 (digits_value 10 text) && nat_le (digits_value 10 text) 131072) found.0 in
    let most = and_parts (nat_le 0 (digits_value 10 text)) (nat_le (digits_value 10 text) 131072) test.1 in
    (test.0, found.1, subst (λ (m : ℕ). m ≤ 131072) found.1 (leb-true (digits_value 10 text) 131072 most.1))

-- a number up to the greatest size is rounded up to a size, if that is not below the least
pub size_found : (text : List ℕ) (n size : ℕ) → number_in 0 131072 text ≡ Some n → size ≡ rounded n → 128 ≤ size → size_of text ≡ Some size
size_found text n size e same low =
    let number = number_up_to text n e in
    let most = rounded_most n number.2 in
    written_again n size text number.0 number.1 (sym same) (and_from _ _ (le-leb 128 size low) (le-leb size 131072 (omega arith)))

-- what is rounded up to less is no size
pub size_small : (text : List ℕ) (n size : ℕ) → number_in 0 131072 text ≡ Some n → size ≡ rounded n → size < 128 → size_of text ≡ None
size_small text n size e same below =
    let number = number_up_to text n e in
    let low : nat_le 128 (rounded n) ≡ false = lt-leb 128 (rounded n) (omega arith) in
    rw (number.0, number.1, low) refl
