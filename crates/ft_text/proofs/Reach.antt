-- Numbers as digits write them.
use Rattle.std.proofs.Common.{◌≡◌, ◌≤◌, ◌<◌, ℕ, true, List, [], ◌∷◌, take, None, arith, refl}
use Rattle.std.proofs.lemmas.Bool.{lt-leb, and_parts, and_from}
use Rattle.std.proofs.lemmas.Str.Parse.{digits_value-take-le}
use Rattle.std.specs.Prelude.{IsTrue}
use Rattle.std.specs.Char.{is_ascii_digit, is_ascii_hexdigit}
use Rattle.std.specs.List.{list_all}
use Rattle.std.specs.Str.Parse.{digits_value}
use Rattle.ft_text.specs.Tokens.{is_decimal}
use Rattle.ft_text.specs.inner.Words.{within_reach}

-- a number that has passed the limit stays out of reach
pub out_of_reach : (radix : ℕ) (text : List ℕ) (i : ℕ) → 1 ≤ radix → 9223372036854775808 < digits_value radix (take i text) → within_reach (digits_value radix text) ≡ None
out_of_reach radix text i some above =
    let le = digits_value-take-le radix text i some in
    rw (lt-leb (digits_value radix text) 9223372036854775808 (omega arith)) refl

-- a decimal digit is a hexadecimal one
hex_digit : (byte : ℕ) → is_ascii_digit byte ≡ true → is_ascii_hexdigit byte ≡ true
hex_digit byte digit = rw digit refl

-- decimal digits are hexadecimal ones
pub hex_digits : (word : List ℕ) → list_all is_ascii_digit word ≡ true → list_all is_ascii_hexdigit word ≡ true
hex_digits [] digits = refl
hex_digits (byte ∷ word) digits =
    let both = and_parts (is_ascii_digit byte) (list_all is_ascii_digit word) digits in
    and_from _ _ (hex_digit byte both.0) (hex_digits word both.1)

-- a decimal number has hexadecimal digits
pub decimal_is_hex : (word : List ℕ) → is_decimal word ≡ true → IsTrue (list_all is_ascii_hexdigit word)
decimal_is_hex word decimal = hex_digits word (and_parts _ _ (and_parts _ _ decimal).0).1
