-- Words and numbers as they are written out, and how they are read.
use Rattle.std.proofs.Common.{◌≡◌, ◌<◌, ◌+◌, ◌^◌, ◌==◌, ℕ, suc, Bool, true, false, not, List, [], ◌∷◌, ◌++◌, length, drop, Some, refl, sym, ap, ◌∙◌, arith, slice_index, reverse, le-leb, ne_eqb, decimal, length-append, append-nil, nat_lt, nat_le}
use Rattle.std.proofs.Math.Seq.{take-append_seam}
use Rattle.std.proofs.lemmas.Bool.{and_parts, not-true, not_from_false}
use Rattle.std.proofs.lemmas.Fmt.{decimal_is_IsNumeral, decimal_nonempty, length-decimal-le}
use Rattle.std.proofs.lemmas.List.{reverse-append, reverse-reverse}
use Rattle.std.proofs.lemmas.List.Folds.{list_all-append}
use Rattle.std.specs.Char.{is_ascii_digit}
use Rattle.std.specs.List.{prefix_len, list_all, before_first, after_first}
use Rattle.ft_text.proofs.Numbers.{digits_all}
use Rattle.ft_text.proofs.Separators.{all_weaker}
use Rattle.ft_script.specs.Script.{greatest_number, most_digits, is_space, is_in_word, is_colon, drop_while, trimmed, first_word, after_word, command_number}
use Rattle.ft_script.specs.Written.{IsCommandNumber, IsStripped, spaced}

-- ---- runs of bytes

-- a front of bytes that pass is the run
run_front : (test : ℕ → Bool) (front rest : List ℕ) → list_all test front ≡ true → prefix_len test rest ≡ 0 → prefix_len test (front ++ rest) ≡ length front
run_front test [] rest all ends = ends
run_front test (byte ∷ front) rest all ends =
    let both = and_parts (test byte) (list_all test front) all in
    let more = run_front test front rest both.1 ends in
    let here = both.0 in
    rw here (omega arith)

-- a front of bytes that pass is dropped
dropped : (test : ℕ → Bool) (front rest : List ℕ) → list_all test front ≡ true → drop_while test (front ++ rest) ≡ drop_while test rest
dropped test [] rest all = refl
dropped test (byte ∷ front) rest all =
    let both = and_parts (test byte) (list_all test front) all in
    let here = both.0 in
    rw here (dropped test front rest both.1)

-- ---- spaces at the ends

-- a text that no space begins
abbrev pub Opens : List ℕ → Type 0
Opens text = (byte : ℕ) (rest : List ℕ) → text ≡ byte ∷ rest → is_space byte ≡ false

-- a text that no space ends
abbrev pub Closes : List ℕ → Type 0
Closes text = (front : List ℕ) (byte : ℕ) → text ≡ front ++ byte ∷ [] → is_space byte ≡ false

-- it stays as it is
pub open_kept : (text : List ℕ) → Opens text → drop_while is_space text ≡ text
open_kept [] opens = refl
open_kept (byte ∷ rest) opens = let here = opens byte rest refl in rw here refl

-- read backwards, it begins with none
back_opens : (text : List ℕ) → Closes text → Opens (reverse text)
back_opens text closes byte rest e = closes (reverse rest) byte (sym (reverse-reverse text) ∙ ap reverse e ∙ reverse-append (byte ∷ []) rest)

-- a text without spaces at its ends stays as it is
pub bare_kept : (text : List ℕ) → IsStripped text → trimmed text ≡ text
unfolding trimmed
bare_kept text bare =
    ap (λ (t : List ℕ). reverse (drop_while is_space (reverse t))) (open_kept text bare.opens)
    ∙ ap reverse (open_kept (reverse text) (back_opens text bare.closes)) ∙ reverse-reverse text

-- a text after another ends both
pub closes_behind : (front text : List ℕ) → 0 < length text → Closes text → Closes (front ++ text)
closes_behind [] text some closes before byte e = closes before byte e
closes_behind (first ∷ front) text some closes [] byte e = absurd (let none : front ++ text ≡ [] = ap (drop 1) e in omega (arith, length-append front text, ap length none))
closes_behind (first ∷ front) text some closes (other ∷ before) byte e = closes_behind front text some closes before byte (ap (drop 1) e)

-- two texts, by the first byte of the first and the last of the second
pub bare_both : (front text : List ℕ) → is_space (slice_index (front ++ text) 0) ≡ false → 0 < length text → Closes text → IsStripped (front ++ text)
bare_both front text first some closes = record {
  opens = λ byte rest e. sym (ap (λ (t : List ℕ). is_space (slice_index t 0)) e) ∙ first;
  closes = closes_behind front text some closes;
}

-- bytes of a word end with no space
pub word_closes : (word : List ℕ) → list_all is_in_word word ≡ true → Closes word
word_closes word all front byte e =
    let split = and_parts (list_all is_in_word front) (list_all is_in_word (byte ∷ [])) (sym (list_all-append is_in_word front (byte ∷ [])) ∙ ap (list_all is_in_word) (sym e) ∙ all) in
    not-true (is_space byte) (and_parts (not (is_space byte)) true split.1).0

-- ---- words

-- a word with a byte begins with no space
pub word_opens : (word rest : List ℕ) → 0 < length word → list_all is_in_word word ≡ true → drop_while is_space (word ++ rest) ≡ word ++ rest
word_opens [] rest some all = absurd (omega arith)
word_opens (byte ∷ word) rest some all = let here = not-true (is_space byte) (and_parts (not (is_space byte)) (list_all is_in_word word) all).0 in rw here refl

-- a word before what no byte of a word begins
pub word_first : (word rest : List ℕ) → list_all is_in_word word ≡ true → prefix_len is_in_word rest ≡ 0 → first_word (word ++ rest) ≡ word
unfolding first_word
word_first word rest all ends = rw (run_front is_in_word word rest all ends, take-append_seam word rest) refl

-- what is after it
pub word_after : (word rest : List ℕ) → list_all is_in_word word ≡ true → after_word (word ++ rest) ≡ drop_while is_space (drop_while is_in_word rest)
unfolding after_word
word_after word rest all = ap (drop_while is_space) (dropped is_in_word word rest all)

-- a text after a space ends a word
pub spaced_ends : (text : List ℕ) → prefix_len is_in_word (spaced text) ≡ 0
spaced_ends [] = refl
spaced_ends (byte ∷ text) = refl

-- what is after the word is the text
spaced_left : (text : List ℕ) → IsStripped text → drop_while is_space (drop_while is_in_word (spaced text)) ≡ text
spaced_left [] bare = refl
spaced_left (byte ∷ text) bare = open_kept (byte ∷ text) bare.opens

-- so it is after a word
pub text_after : (word text : List ℕ) → list_all is_in_word word ≡ true → IsStripped text → after_word (word ++ spaced text) ≡ text
text_after word text all bare = word_after word (spaced text) all ∙ spaced_left text bare

-- both end with no space
pub spaced_closes : (word text : List ℕ) → list_all is_in_word word ≡ true → IsStripped text → Closes (word ++ spaced text)
spaced_closes word [] all bare front byte e = word_closes word all front byte (sym (append-nil word) ∙ e)
spaced_closes word (first ∷ text) all bare front byte e =
    closes_behind word (32 ∷ first ∷ text) (omega arith) (closes_behind (32 ∷ []) (first ∷ text) (omega arith) bare.closes) front byte e

-- ---- numbers

-- a digit is no byte that is none
digit_apart : (byte other : ℕ) → is_ascii_digit byte ≡ true → is_ascii_digit other ≡ false → not (byte == other) ≡ true
digit_apart byte other h fails = not_from_false (byte == other) (ne_eqb byte other (λ e. absurd (let x : true ≡ false = sym h ∙ ap is_ascii_digit e ∙ fails in cc)))

-- no space stands in a number
pub number_word : (n : ℕ) → IsCommandNumber n → list_all is_in_word (decimal n) ≡ true
number_word n low = all_weaker is_ascii_digit is_in_word (λ byte h. digit_apart byte 32 h refl) (decimal n) (digits_all n (omega arith))

-- a number has a digit
pub number_some : (n : ℕ) → IsCommandNumber n → 0 < length (decimal n)
number_some n low = decimal_nonempty n (omega arith)

-- a number is read again
pub number_again : (n : ℕ) → IsCommandNumber n → command_number (decimal n) ≡ Some n
unfolding command_number
number_again n low =
    let small : n < 2 ^ 64 = omega arith in
    let some : nat_lt 0 (length (decimal n)) ≡ true = le-leb _ _ (decimal_nonempty n small) in
    let short : nat_le (length (decimal n)) most_digits ≡ true = le-leb _ _ (length-decimal-le 10 n (omega arith) (omega arith) small) in
    let within : nat_le n greatest_number ≡ true = le-leb _ _ low in
    rw (some, short, digits_all n small, (decimal_is_IsNumeral n small).1, within) refl

-- what is after a colon
colon_left : (a b : List ℕ) (byte : ℕ) → drop (length a + 1) (a ++ byte ∷ b) ≡ b
colon_left [] b byte = refl
colon_left (first ∷ a) b byte = let one : length (first ∷ a) + 1 ≡ suc (length a + 1) = omega arith in rw one (colon_left a b byte)

-- two numbers are cut at the colon between them
pub colon_cut : (n : ℕ) (rest : List ℕ) → IsCommandNumber n → (before_first is_colon (decimal n ++ 58 ∷ rest) ≡ decimal n) × (after_first is_colon (decimal n ++ 58 ∷ rest) ≡ rest)
colon_cut n rest low =
    let all = all_weaker is_ascii_digit (λ byte. not (is_colon byte)) (λ byte h. digit_apart byte 58 h refl) (decimal n) (digits_all n (omega arith)) in
    let at = run_front (λ byte. not (is_colon byte)) (decimal n) (58 ∷ rest) all refl in
    (rw (at, take-append_seam (decimal n) (58 ∷ rest)) refl, rw at (colon_left (decimal n) rest 58))
