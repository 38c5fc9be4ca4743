-- Words of a script line, by where they are cut.
use Rattle.std.proofs.Common.{◌≡◌, ℕ, suc, ◌+◌, Bool, true, false, not, cond, ◌==◌, List, [], ◌∷◌, length, take, drop, ◌-◌, refl, ap, sym, arith, Option, Some, None}
use Rattle.std.specs.Option.{unwrap_or}
use Rattle.std.specs.List.{prefix_len, position_or_len}
use Rattle.std.proofs.lemmas.List.{take_rest, drop_all}
use Rattle.std.proofs.lemmas.List.Sums.{prefix_len_is}
use Rattle.memchr.specs.Find.{IsFirstByte, is_byte}
use Rattle.ft_script.specs.Script.{NoForm, drop_while, command_number, is_colon, strike_of, strike_in}

-- one more byte that passes is dropped
drop_more : (passes : Bool) (byte : ℕ) (bytes left : List ℕ) (n : ℕ) → left ≡ drop n bytes → cond passes left (byte ∷ bytes) ≡ drop (cond passes (1 + n) 0) (byte ∷ bytes)
drop_more true byte bytes left n so = let one : 1 + n ≡ suc n = omega arith in rw one so
drop_more false byte bytes left n so = refl

-- dropping while a test holds is dropping the front that passes
pub drop_while_is : (test : ℕ → Bool) (text : List ℕ) → drop_while test text ≡ drop (prefix_len test text) text
drop_while_is test [] = refl
drop_while_is test (byte ∷ bytes) = drop_more (test byte) byte bytes _ _ (drop_while_is test bytes)

-- what is not true is false
denied : (b : Bool) → (b ≡ true → ⊥) → not b ≡ true
denied true h = absurd (h refl)
denied false h = refl

-- the byte that was found first is the first of the text, and none stands before the text's end
pub first_at : (byte : ℕ) (text : List ℕ) (found : Option ℕ) → IsFirstByte (is_byte byte) text found → unwrap_or found (length text) ≡ position_or_len (λ b. b == byte) text
first_at byte text None none = sym (prefix_len_is (λ b. not (b == byte)) text (length text) 0 (omega arith) (λ k h. denied _ (none k (omega arith) h)) (λ h. absurd (omega arith)))
first_at byte text (Some end) here =
    sym (prefix_len_is (λ b. not (b == byte)) text end 0 (omega (arith, here.0.high)) (λ k h. denied _ (here.0.before k (omega arith) h)) (λ h. ap not here.1))

-- what is before and after the first colon is what is struck
pub strike_at : (text : List ℕ) (colon : ℕ) → IsFirstByte (is_byte 58) text (Some colon)
    → strike_of (command_number (take colon text)) (command_number (take (length text - (colon + 1)) (drop (colon + 1) text))) ≡ strike_in text
unfolding strike_in
strike_at text colon here = let at : colon ≡ position_or_len is_colon text = first_at 58 text (Some colon) here in rw (take_rest text (colon + 1)) (rw at refl)

-- nothing is struck without a colon
pub strike_none : (text : List ℕ) → IsFirstByte (is_byte 58) text None → NoForm ≡ strike_in text
unfolding strike_in command_number
strike_none text none =
    let at : length text ≡ position_or_len is_colon text = first_at 58 text None none in
    rw (drop_all (position_or_len is_colon text + 1) text (omega (arith, at))) refl
