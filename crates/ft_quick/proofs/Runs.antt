-- Runs of digits that a text begins with.
use Rattle.std.proofs.Common.{◌≡◌, ◌<◌, ◌≤◌, ℕ, ◌+◌, ◌-◌, ◌*◌, ◌^◌, suc, true, List, take, drop, length, get_or, sym, ap, ◌∙◌, arith, leb}
use Rattle.std.proofs.Math.Nat.{pow-le-pow_right, pow-suc}
use Rattle.std.proofs.lemmas.Bool.{and_from, and_parts, leb-true}
use Rattle.std.proofs.lemmas.Int.Digits.{digits_value_more}
use Rattle.std.proofs.lemmas.List.{take-append-drop, length-take}
use Rattle.std.proofs.lemmas.List.Folds.{list_all_more}
use Rattle.std.specs.List.{list_all}
use Rattle.std.specs.Str.Parse.{digits_value}
use Rattle.ft_event.specs.Bytes.{is_digit}
use Rattle.ft_event.proofs.Digits.{digit_value_is}
use Rattle.ft_quick.specs.inner.Cuts.{IsNumbered}

pub record IsRead (text : List ℕ) (i n : ℕ) : Type 0 where
  pub digits : list_all is_digit (take i text) ≡ true
  pub value : n ≡ digits_value 10 (take i text)
  pub below : n < 10 ^ i

-- what was read of at most eight digits has room for one more
pub has_room : (text : List ℕ) (i n : ℕ) → i ≤ 8 → IsRead text i n → n ≤ 99999999
has_room text i n few read = let power : 10 ^ i ≤ 10 ^ 8 = pow-le-pow_right {n = 10} (omega arith) {i = i} {j = 8} few in omega (arith, read.below)

-- one more digit
pub next_digit : (text : List ℕ) (i n : ℕ) → i < length text → is_digit (get_or text i 0) ≡ true → IsRead text i n → IsRead text (i + 1) (n * 10 + (get_or text i 0 - 48))
next_digit text i n within digit read =
    let p = and_parts (leb 48 (get_or text i 0)) (leb (get_or text i 0) 57) digit in
    let high : get_or text i 0 ≤ 57 = leb-true (get_or text i 0) 57 p.1 in
    let more = digits_value_more 10 text i within in
    let own = digit_value_is (get_or text i 0) digit in
    let next : suc i ≡ i + 1 = omega arith in
    let power : 10 ^ (i + 1) ≡ 10 ^ i * 10 = sym (ap (λ (k : ℕ). 10 ^ k) next) ∙ pow-suc 10 i in
    record {
      digits = list_all_more is_digit text i 0 within ∙ and_from _ _ read.digits digit;
      value = omega (arith, read.value);
      below = omega (arith, read.below);
    }

-- the number that a text begins with
pub numbered : (text : List ℕ) (i n : ℕ) → 0 < i → i ≤ 9 → i ≤ length text → IsRead text i n → IsNumbered text n (drop i text)
numbered text i n some few within read = record {
  digits = take i text;
  joined = sym (take-append-drop i text);
  are = (omega (arith, length-take i text), read.digits);
  value = read.value;
  below = let power : 10 ^ i ≤ 10 ^ 9 = pow-le-pow_right {n = 10} (omega arith) {i = i} {j = 9} few in omega (arith, read.below);
}
