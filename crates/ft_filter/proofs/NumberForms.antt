-- Which words write numbers, and what `number_of` and `number_at` find is what `Writes` and `IsNumber` say.
use Rattle.std.proofs.Common.{◌||◌, ◌≡◌, ◌≢◌, ◌≤◌, ◌↔◌, ◌⊎◌, ◌&&◌, ℕ, suc, Bool, true, false, inl, inr, not, subst, cond, List, [], ◌∷◌, ◌++◌, take, drop, length, Option, Some, None, refl, sym, ap, ◌∙◌, arith, slice_index, ℤ, pos, neg_ℤ, ◌==◌, ne_eqb, eq-eqb, eqb-true, le-leb, leb-true, leb, codes}
use Rattle.std.proofs.Math.Dec.{eqb-suc-zero}
use Rattle.std.proofs.Math.Numerals.{one-add}
use Rattle.std.proofs.lemmas.Bool.{cases_eq, and_parts, and_from, or_cases}
use Rattle.std.proofs.lemmas.List.{take_at, drop_at}
use Rattle.std.proofs.lemmas.Option.{same_Some}
use Rattle.std.specs.Prelude.{option_map}
use Rattle.std.specs.Char.{is_ascii_digit}
use Rattle.std.specs.List.{prefix_len, list_all, starts_with}
use Rattle.std.specs.Str.Parse.{digits_value}
use Rattle.ft_text.specs.Tokens.{is_in_name, is_decimal, is_hexadecimal, number_of, word_len, number_at}
use Rattle.ft_filter.specs.Numbers.{IsDecimal, IsHexadecimal, Writes, plain, negative, hexadecimal, IsWord, IsNumber}
use Rattle.ft_text.proofs.Runs.{run_len, run_splits, label_joined}

-- ---- forms

-- digits after a first one
decimal_more : (first : ℕ) (others : List ℕ) → 49 ≤ first → first ≤ 57 → list_all is_ascii_digit others ≡ true → is_decimal (first ∷ others) ≡ true
decimal_more first others low high digits =
    let a : is_ascii_digit first ≡ true = and_from _ _ (le-leb 48 first (omega arith)) (le-leb first 57 high) in
    let b : (first == 48) ≡ false = ne_eqb first 48 (λ e. omega arith) in
    rw (eqb-suc-zero (length others), a, digits, b) refl

pub decimal_to : (word : List ℕ) → IsDecimal word → is_decimal word ≡ true
decimal_to word (inl zero) = rw zero refl
decimal_to word (inr h) = rw h.2 (decimal_more h.0 h.1 h.3 h.4 h.5)

-- a zero in front of others is no number's
zero_alone : (first : ℕ) (others : List ℕ) → first ≡ 48 → (not (first == 48) ≡ true) ⊎ ((length (first ∷ others) == 1) ≡ true) → IsDecimal (first ∷ others)
zero_alone first others zero (inl other) = let e = eq-eqb first 48 zero in absurd (let f : false ≡ true = rw e at other in cc)
zero_alone first [] zero (inr one) = inl (ap (λ (b : ℕ). b ∷ []) zero)
zero_alone first (b ∷ others) zero (inr one) = let e = eqb-true (length (first ∷ b ∷ others)) 1 one in absurd (omega arith)

-- a digit's range
digit_low : (byte : ℕ) → is_ascii_digit byte ≡ true → 48 ≤ byte
digit_low byte h = leb-true 48 byte (and_parts (leb 48 byte) (leb byte 57) h).0

digit_high : (byte : ℕ) → is_ascii_digit byte ≡ true → byte ≤ 57
digit_high byte h = leb-true byte 57 (and_parts (leb 48 byte) (leb byte 57) h).1

pub decimal_from : (word : List ℕ) → is_decimal word ≡ true → IsDecimal word
decimal_from [] h = absurd cc
decimal_from (first ∷ others) h =
    let parts = and_parts (not (length (first ∷ others) == 0) && list_all is_ascii_digit (first ∷ others)) (not (first == 48) || length (first ∷ others) == 1) h in
    let digits = and_parts (is_ascii_digit first) (list_all is_ascii_digit others) (and_parts (not (length (first ∷ others) == 0)) (list_all is_ascii_digit (first ∷ others)) parts.0).1 in
    let low : 48 ≤ first = digit_low first digits.0 in
    let high : first ≤ 57 = digit_high first digits.0 in
    elim (cases_eq first 48) [
      | inl zero ↦ zero_alone first others zero (or_cases (not (first == 48)) (length (first ∷ others) == 1) parts.1)
      | inr other ↦ inr (first, others, refl, omega arith, high, digits.1)
    ]

-- digits of either case, at least one
hexadecimal_to : (digits : List ℕ) → IsHexadecimal digits → is_hexadecimal digits ≡ true
hexadecimal_to digits h =
    let some : (length digits == 0) ≡ false = ne_eqb (length digits) 0 (λ e. let lt = h.0 in omega arith) in
    let all = h.1 in
    rw (some, all) refl

hexadecimal_from : (digits : List ℕ) → is_hexadecimal digits ≡ true → IsHexadecimal digits
hexadecimal_from [] h = absurd cc
hexadecimal_from (b ∷ digits) h = (omega arith, (and_parts _ _ h).1)

-- ---- words

pub writes_to : (word : List ℕ) (z : ℤ) → Writes word z → number_of word ≡ Some z
unfolding number_of
writes_to word z (plain digits h) = let form = decimal_to digits h in rw form refl
writes_to word z (negative digits h) = let form = decimal_to digits h in rw (eqb-suc-zero (length digits), form) refl
writes_to word z (hexadecimal digits h) = let form = hexadecimal_to digits h in rw (eqb-suc-zero (suc (length digits)), form) refl

-- a word after a label that it begins with
behind_label : (label word : List ℕ) → starts_with ◌==◌ word label ≡ true → label ++ drop (length label) word ≡ word
behind_label label word h = sym (label_joined label word h)

pub writes_from : (word : List ℕ) (z : ℤ) → number_of word ≡ Some z → Writes word z
unfolding number_of
writes_from word z e = decided (is_decimal word) refl e
  where
    prefixed : (b : Bool) → (starts_with ◌==◌ word (codes "0x") && is_hexadecimal (drop 2 word)) ≡ b → cond b (Some (pos (digits_value 16 (drop 2 word)))) None ≡ Some z → Writes word z
    prefixed false is e = absurd cc
    prefixed true is e =
        let both = and_parts (starts_with ◌==◌ word (codes "0x")) (is_hexadecimal (drop 2 word)) is in
        let made : Writes (codes "0x" ++ drop 2 word) (pos (digits_value 16 (drop 2 word))) = hexadecimal (drop 2 word) (hexadecimal_from (drop 2 word) both.1) in
        subst (λ (w : List ℕ). Writes w z) (behind_label (codes "0x") word both.0) (subst (Writes (codes "0x" ++ drop 2 word)) (same_Some _ _ e) made)

    signed : (b : Bool) → (starts_with ◌==◌ word (codes "-") && is_decimal (drop 1 word)) ≡ b
        → cond b (Some (neg_ℤ (pos (digits_value 10 (drop 1 word))))) (cond (starts_with ◌==◌ word (codes "0x") && is_hexadecimal (drop 2 word)) (Some (pos (digits_value 16 (drop 2 word)))) None) ≡ Some z → Writes word z
    signed false is e = prefixed (starts_with ◌==◌ word (codes "0x") && is_hexadecimal (drop 2 word)) refl e
    signed true is e =
        let both = and_parts (starts_with ◌==◌ word (codes "-")) (is_decimal (drop 1 word)) is in
        let made : Writes (codes "-" ++ drop 1 word) (neg_ℤ (pos (digits_value 10 (drop 1 word)))) = negative (drop 1 word) (decimal_from (drop 1 word) both.1) in
        subst (λ (w : List ℕ). Writes w z) (behind_label (codes "-") word both.0) (subst (Writes (codes "-" ++ drop 1 word)) (same_Some _ _ e) made)

    decided : (b : Bool) → is_decimal word ≡ b
        → cond b (Some (pos (digits_value 10 word))) (cond (starts_with ◌==◌ word (codes "-") && is_decimal (drop 1 word)) (Some (neg_ℤ (pos (digits_value 10 (drop 1 word))))) (cond (starts_with ◌==◌ word (codes "0x") && is_hexadecimal (drop 2 word)) (Some (pos (digits_value 16 (drop 2 word)))) None)) ≡ Some z
        → Writes word z
    decided false is e = signed (starts_with ◌==◌ word (codes "-") && is_decimal (drop 1 word)) refl e
    decided true is e = subst (Writes word) (same_Some _ _ e) (plain word (decimal_from word is))

-- the forms of words, both ways
pub number_forms : (word : List ℕ) (z : ℤ) → (number_of word ≡ Some z) ↔ Writes word z
number_forms word z = (writes_from word z, writes_to word z)

-- ---- tokens

-- if no `-` stands first
word_len_plain : (text : List ℕ) → slice_index text 0 ≢ 45 → word_len text ≡ prefix_len is_in_name text
word_len_plain [] other = refl
word_len_plain (byte ∷ text) other = let e = ne_eqb byte 45 other in rw e refl

-- if one stands first
word_len_minus : (text : List ℕ) → word_len (45 ∷ text) ≡ suc (prefix_len is_in_name text)
word_len_minus text = rw one-add refl

-- each text has a word
pub word_splits : (text : List ℕ) → IsWord text (take (word_len text) text) (drop (word_len text) text)
word_splits [] = record { run = []; joined = refl; parts = inl (λ e. omega arith, refl); letters = refl; longest = tt }
word_splits (byte ∷ text) = elim (cases_eq byte 45) [
  | inl minus ↦
      let r = run_splits is_in_name text in
      let n : ℕ = prefix_len is_in_name text in
      let e : word_len (byte ∷ text) ≡ suc n = rw minus (word_len_minus text) in
      let here : IsWord (byte ∷ text) (take (suc n) (byte ∷ text)) (drop (suc n) (byte ∷ text)) = record {
        run = take n text;
        joined = ap (λ (t : List ℕ). byte ∷ t) r.joined;
        parts = inr (ap (λ (b : ℕ). b ∷ take n text) minus);
        letters = r.passes;
        longest = r.stops;
      } in
      subst (λ (k : ℕ). IsWord (byte ∷ text) (take k (byte ∷ text)) (drop k (byte ∷ text))) (sym e) here
  | inr other ↦
      let r = run_splits is_in_name (byte ∷ text) in
      let n : ℕ = prefix_len is_in_name (byte ∷ text) in
      let e : word_len (byte ∷ text) ≡ n = word_len_plain (byte ∷ text) other in
      let here : IsWord (byte ∷ text) (take n (byte ∷ text)) (drop n (byte ∷ text)) = record {
        run = take n (byte ∷ text);
        joined = r.joined;
        parts = inl (other, refl);
        letters = r.passes;
        longest = r.stops;
      } in
      subst (λ (k : ℕ). IsWord (byte ∷ text) (take k (byte ∷ text)) (drop k (byte ∷ text))) (sym e) here
]

-- and only one
word_long : (text word rest : List ℕ) → IsWord text word rest → word_len text ≡ length word
word_long text word rest h = from h.parts
  where
    from : ((slice_index text 0 ≢ 45) × (word ≡ h.run)) ⊎ (word ≡ codes "-" ++ h.run) → word_len text ≡ length word
    from (inl p) =
        let joined : text ≡ h.run ++ rest = h.joined ∙ ap (λ (t : List ℕ). t ++ rest) p.1 in
        word_len_plain text p.0 ∙ ap (prefix_len is_in_name) joined ∙ run_len is_in_name h.run rest h.letters h.longest ∙ sym (ap length p.1)
    from (inr p) =
        let joined : text ≡ 45 ∷ (h.run ++ rest) = h.joined ∙ ap (λ (t : List ℕ). t ++ rest) p in
        ap word_len joined ∙ word_len_minus (h.run ++ rest) ∙ ap suc (run_len is_in_name h.run rest h.letters h.longest) ∙ sym (ap length p)

-- the word and the rest
pub word_is : (text word rest : List ℕ) → IsWord text word rest → (take (word_len text) text ≡ word) × (drop (word_len text) text ≡ rest)
word_is text word rest h =
    let len = word_long text word rest h in
    (ap (λ (t : List ℕ). take (word_len text) t) h.joined ∙ take_at word rest (word_len text) (sym len), ap (λ (t : List ℕ). drop (word_len text) t) h.joined ∙ drop_at word rest (word_len text) (sym len))

pub number_to : (text : List ℕ) (z : ℤ) (rest : List ℕ) → IsNumber text z rest → number_at text ≡ Some (z, rest)
unfolding number_at
number_to text z rest h =
    let at = word_is text h.0 rest h.1 in
    let is : number_of (take (word_len text) text) ≡ Some z = ap number_of at.0 ∙ writes_to h.0 z h.2 in
    rw (is, at.1) refl

pub number_from : (text : List ℕ) (z : ℤ) (rest : List ℕ) → number_at text ≡ Some (z, rest) → IsNumber text z rest
unfolding number_at
number_from text z rest e = from (number_of (take (word_len text) text)) refl e
  where
    from : (o : Option ℤ) → number_of (take (word_len text) text) ≡ o → option_map {U = ℤ × List ℕ} (λ number. (number, drop (word_len text) text)) o ≡ Some (z, rest) → IsNumber text z rest
    from None is e = absurd cc
    from (Some number) is e =
        let same = same_Some _ _ e in
        let z_is : number ≡ z = ap (λ (p : ℤ × List ℕ). p.0) same in
        let rest_is : drop (word_len text) text ≡ rest = ap (λ (p : ℤ × List ℕ). p.1) same in
        (take (word_len text) text, subst (IsWord text (take (word_len text) text)) rest_is (word_splits text), writes_from _ z (is ∙ ap Some z_is))

-- the tokens, both ways
pub number_tokens : (text : List ℕ) (z : ℤ) (rest : List ℕ) → (number_at text ≡ Some (z, rest)) ↔ IsNumber text z rest
number_tokens text z rest = (number_from text z rest, number_to text z rest)
