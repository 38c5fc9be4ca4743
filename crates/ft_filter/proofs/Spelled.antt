-- Words as a canonical text spells them, and how they are read.
use Rattle.std.proofs.Common.{◌≡◌, ◌≢◌, ◌⊎◌, ◌<◌, ◌≤◌, ◌+◌, ◌^◌, ◌||◌, ℕ, zero, suc, Bool, true, false, inl, inr, not, List, [], ◌∷◌, ◌++◌, length, take, drop, Some, None, refl, sym, ap, ◌∙◌, subst, arith, one-add, append_assoc, slice_index, if◌then◌else◌, ℤ, pos, negsuc, ◌==◌, leb-true, ne_eqb, eq-eqb, eqb-true, decimal}
use Rattle.std.proofs.Math.Dec.{eqb-suc-zero}
use Rattle.std.proofs.Math.Seq.{take-append_seam, drop-append_seam}
use Rattle.std.proofs.lemmas.Bool.{and_parts}
use Rattle.std.proofs.lemmas.Option.{same_Some}
use Rattle.std.proofs.lemmas.Fmt.{decimal_is_IsNumeral, decimal_nonempty, decimal_digit, first_decimal}
use Rattle.std.specs.Char.{is_ascii_digit}
use Rattle.std.specs.Fmt.{signed_decimal}
use Rattle.std.specs.List.{prefix_len, list_all}
use Rattle.std.specs.Str.Parse.{digits_value}
use Rattle.ft_fields.specs.declared.field.Field.{Field}
use Rattle.ft_fields.specs.declared.field.Field.TheVariants as fields
use Rattle.ft_fields.specs.Fields.{field_text}
use Rattle.ft_text.specs.Ranged.{fits_i64}
use Rattle.ft_text.proofs.Numbers.{digits_all}
use Rattle.ft_text.proofs.Spellings.{IsName, Apart, stops, run_front, name_again, run_passes}
use Rattle.ft_text.specs.Tokens.{is_gap, skip, is_in_name, name_at, is_quote, cut_at, quoted_at, is_decimal, number_of, word_len, number_at}
use Rattle.ft_filter.specs.declared.tree.Op.{Op}
use Rattle.ft_filter.specs.declared.tree.Op.TheVariants as ops
use Rattle.ft_filter.specs.Canonical.{quoted}
use Rattle.ft_filter.specs.Operators.{op_text, op_at}

-- a space in front is passed
pub skip_gap : (text : List ℕ) → skip (32 ∷ text) ≡ skip text
skip_gap text = rw one-add refl

-- a text that no space and no tab begins
pub skip_none : (text : List ℕ) → is_gap (slice_index text 0) ≡ false → skip text ≡ text
skip_none text h = ap (λ (n : ℕ). drop n text) (stops is_gap text h)

-- ---- fields and operators

-- a field's name is a name
field_named : (field : Field) → IsName (field_text field)
field_named fields.CommonPid = record { begins = refl; inside = refl }
field_named fields.CommonCpu = record { begins = refl; inside = refl }
field_named fields.Pid = record { begins = refl; inside = refl }
field_named fields.Prio = record { begins = refl; inside = refl }
field_named fields.TargetCpu = record { begins = refl; inside = refl }
field_named fields.Comm = record { begins = refl; inside = refl }
field_named fields.PrevPid = record { begins = refl; inside = refl }
field_named fields.PrevPrio = record { begins = refl; inside = refl }
field_named fields.NextPid = record { begins = refl; inside = refl }
field_named fields.NextPrio = record { begins = refl; inside = refl }
field_named fields.PrevComm = record { begins = refl; inside = refl }
field_named fields.PrevState = record { begins = refl; inside = refl }
field_named fields.NextComm = record { begins = refl; inside = refl }
field_named fields.Lat = record { begins = refl; inside = refl }

-- a field's name is read
pub field_name_again : (field : Field) (rest : List ℕ) → Apart rest → name_at (field_text field ++ rest) ≡ Some (field_text field, rest)
field_name_again field rest = name_again (field_text field) rest (field_named field)

-- a letter begins a field's name
pub name_first : (field : Field) (rest : List ℕ) → 45 ≤ slice_index (field_text field ++ rest) 0
name_first fields.CommonPid rest = omega arith
name_first fields.CommonCpu rest = omega arith
name_first fields.Pid rest = omega arith
name_first fields.Prio rest = omega arith
name_first fields.TargetCpu rest = omega arith
name_first fields.Comm rest = omega arith
name_first fields.PrevPid rest = omega arith
name_first fields.PrevPrio rest = omega arith
name_first fields.NextPid rest = omega arith
name_first fields.NextPrio rest = omega arith
name_first fields.PrevComm rest = omega arith
name_first fields.PrevState rest = omega arith
name_first fields.NextComm rest = omega arith
name_first fields.Lat rest = omega arith

-- an operator before a space is read
pub op_again : (op : Op) (rest : List ℕ) → op_at (op_text op ++ 32 ∷ rest) ≡ Some (op, 32 ∷ rest)
unfolding op_at
op_again ops.Eq rest = refl
op_again ops.Ne rest = refl
op_again ops.Lt rest = refl
op_again ops.Le rest = refl
op_again ops.Gt rest = refl
op_again ops.Ge rest = refl
op_again ops.Bits rest = refl
op_again ops.Glob rest = refl

-- no space and no tab begins an operator
pub op_first : (op : Op) (rest : List ℕ) → is_gap (slice_index (op_text op ++ rest) 0) ≡ false
op_first ops.Eq rest = refl
op_first ops.Ne rest = refl
op_first ops.Lt rest = refl
op_first ops.Le rest = refl
op_first ops.Gt rest = refl
op_first ops.Ge rest = refl
op_first ops.Bits rest = refl
op_first ops.Glob rest = refl

-- ---- quoted texts

-- some quote does not stand in the text
abbrev pub IsQuotable : List ℕ → Type 0
IsQuotable text = (list_all (λ byte. not (byte == 34)) text ≡ true) ⊎ (list_all (λ byte. not (byte == 39)) text ≡ true)

-- the quote at both ends of a text
pub record Quotes (text : List ℕ) : Type 0 where
  pub mark : ℕ
  pub spelled : quoted text ≡ mark ∷ (text ++ mark ∷ [])
  pub quotes : is_quote mark ≡ true
  pub free : list_all (λ byte. not (byte == mark)) text ≡ true
  pub seen : is_gap mark ≡ false

-- double quotes round a text that holds none
double_spelled : (text : List ℕ) → list_all (λ byte. not (byte == 34)) text ≡ true → quoted text ≡ 34 ∷ (text ++ 34 ∷ [])
unfolding quoted
double_spelled text h = rw h refl

-- single quotes round a text that holds a double one
single_spelled : (text : List ℕ) → list_all (λ byte. not (byte == 34)) text ≡ false → quoted text ≡ 39 ∷ (text ++ 39 ∷ [])
unfolding quoted
single_spelled text h = rw h refl

-- a text that does not hold both stands in quotes
pub quotes : (text : List ℕ) → IsQuotable text → Quotes text
quotes text able = from (list_all (λ byte. not (byte == 34)) text) refl able
  where
    from : (b : Bool) → list_all (λ byte. not (byte == 34)) text ≡ b → IsQuotable text → Quotes text
    from true is able = record { mark = 34; spelled = double_spelled text is; quotes = refl; free = is; seen = refl }
    from false is (inl h) = absurd (let e : true ≡ false = sym h ∙ is in cc)
    from false is (inr h) = record { mark = 39; spelled = single_spelled text is; quotes = refl; free = h; seen = refl }

-- a text is cut before its closing quote
cut_again : (mark : ℕ) (text rest : List ℕ) → list_all (λ byte. not (byte == mark)) text ≡ true → cut_at mark (text ++ mark ∷ rest) ≡ Some (text, rest)
cut_again mark text rest free =
    let here : not (mark == mark) ≡ false = ap not (eq-eqb mark mark refl) in
    let front = run_front (λ byte. not (byte == mark)) text (mark ∷ rest) free (stops (λ byte. not (byte == mark)) (mark ∷ rest) here) in
    rw (front, take-append_seam text (mark ∷ rest), drop-append_seam text (mark ∷ rest), eqb-suc-zero (length rest)) refl

-- so a text in quotes is read
pub quotes_found : (mark : ℕ) (text rest : List ℕ) → is_quote mark ≡ true → list_all (λ byte. not (byte == mark)) text ≡ true → quoted_at (mark ∷ (text ++ mark ∷ rest)) ≡ Some (text, rest)
unfolding quoted_at
quotes_found mark text rest quotes free = let e = cut_again mark text rest free in rw quotes e

-- a quoted text is read
pub quoted_again : (text rest : List ℕ) (q : Quotes text) → quoted_at (quoted text ++ rest) ≡ Some (text, rest)
quoted_again text rest q =
    let e : quoted text ++ rest ≡ q.mark ∷ (text ++ q.mark ∷ rest) =
    ap (λ (t : List ℕ). t ++ rest) q.spelled ∙ ap (λ (t : List ℕ). q.mark ∷ t) (append_assoc text (q.mark ∷ []) rest) in
    ap quoted_at e ∙ quotes_found q.mark text rest q.quotes q.free

-- the quote stands first
pub quoted_first : (text rest : List ℕ) (q : Quotes text) → slice_index (quoted text ++ rest) 0 ≡ q.mark
quoted_first text rest q = ap (λ (t : List ℕ). slice_index (t ++ rest) 0) q.spelled

-- a quote is one of two
pub quote_cases : (mark : ℕ) → is_quote mark ≡ true → (mark ≡ 34) ⊎ (mark ≡ 39)
quote_cases mark h = from (mark == 34) refl h
  where
    from : (b : Bool) → (mark == 34) ≡ b → (b || mark == 39) ≡ true → (mark ≡ 34) ⊎ (mark ≡ 39)
    from true is h = inl (eqb-true mark 34 is)
    from false is h = inr (eqb-true mark 39 h)

-- a text without one of them can be quoted
quotable_by : (mark : ℕ) (text : List ℕ) → is_quote mark ≡ true → list_all (λ byte. not (byte == mark)) text ≡ true → IsQuotable text
quotable_by mark text quotes free = elim (quote_cases mark quotes) [
  | inl is ↦ inl (subst (λ (m : ℕ). list_all (λ byte. not (byte == m)) text ≡ true) is free)
  | inr is ↦ inr (subst (λ (m : ℕ). list_all (λ byte. not (byte == m)) text ≡ true) is free)
]

-- what is cut before a quote holds none
cut_free : (mark : ℕ) (text : List ℕ) (found : List ℕ × List ℕ) → cut_at mark text ≡ Some found → list_all (λ byte. not (byte == mark)) found.0 ≡ true
cut_free mark text found e = from (length (drop (prefix_len (λ byte. not (byte == mark)) text) text) == 0) e
  where
    from : (b : Bool) → (if b then None else Some (take (prefix_len (λ byte. not (byte == mark)) text) text, drop 1 (drop (prefix_len (λ byte. not (byte == mark)) text) text))) ≡ Some found → list_all (λ byte. not (byte == mark)) found.0 ≡ true
    from true e = absurd cc
    from false e =
        let same = ap (λ (p : List ℕ × List ℕ). p.0) (same_Some _ _ e) in
        subst (λ (t : List ℕ). list_all (λ byte. not (byte == mark)) t ≡ true) same (run_passes (λ byte. not (byte == mark)) text)

-- what was read in quotes can be quoted
pub quotable : (text : List ℕ) (found : List ℕ × List ℕ) → quoted_at text ≡ Some found → IsQuotable found.0
unfolding quoted_at
quotable [] found e = absurd cc
quotable (mark ∷ text) found e = from (is_quote mark) refl e
  where
    from : (b : Bool) → is_quote mark ≡ b → (if b then cut_at mark text else None) ≡ Some found → IsQuotable found.0
    from false is e = absurd cc
    from true is e = quotable_by mark found.0 is (cut_free mark text found e)

-- ---- numbers

-- a digit is a byte of a name
digits_in_name : (ds : List ℕ) → list_all is_ascii_digit ds ≡ true → list_all is_in_name ds ≡ true
digits_in_name [] h = refl
digits_in_name (byte ∷ ds) h =
    let both = and_parts (is_ascii_digit byte) (list_all is_ascii_digit ds) h in
    let here = both.0 in
    rw here (digits_in_name ds both.1)

-- a digit is at least `0`
digit_above : (byte : ℕ) → is_ascii_digit byte ≡ true → 48 ≤ byte
digit_above byte h = leb-true 48 byte (and_parts _ _ h).0

-- a number that is no zero begins with no zero
decimal_form : (word : List ℕ) → 0 < length word → list_all is_ascii_digit word ≡ true → slice_index word 0 ≢ 48 → is_decimal word ≡ true
decimal_form word some digits first =
    let a : (length word == 0) ≡ false = ne_eqb _ _ (λ e. omega arith) in
    let b : (slice_index word 0 == 48) ≡ false = ne_eqb _ _ first in
    rw (a, digits, b) refl

-- a number is written as one
decimal_is : (n : ℕ) → n < 2 ^ 64 → is_decimal (decimal n) ≡ true
decimal_is zero lt = rw (decimal_digit 0 (omega arith)) refl
decimal_is (suc n) lt =
    let first = first_decimal (suc n) (omega arith) lt in
    decimal_form (decimal (suc n)) (decimal_nonempty (suc n) lt) (digits_all (suc n) lt) (λ e. omega arith)

-- where digits end
word_digits : (word rest : List ℕ) → 0 < length word → list_all is_ascii_digit word ≡ true → Apart rest → word_len (word ++ rest) ≡ length word
word_digits [] rest some digits apart = absurd (omega arith)
word_digits (byte ∷ word) rest some digits apart =
    let both = and_parts (is_ascii_digit byte) (list_all is_ascii_digit word) digits in
    let high = digit_above byte both.0 in
    let other : (byte == 45) ≡ false = ne_eqb byte 45 (λ e. omega arith) in
    let front = run_front is_in_name (byte ∷ word) rest (digits_in_name (byte ∷ word) digits) (stops is_in_name rest apart) in
    rw other front

-- where a `-` and digits end
word_minus : (word rest : List ℕ) → list_all is_ascii_digit word ≡ true → Apart rest → word_len (45 ∷ (word ++ rest)) ≡ suc (length word)
word_minus word rest digits apart =
    let front = run_front is_in_name word rest (digits_in_name word digits) (stops is_in_name rest apart) in
    rw front (omega arith)

-- a number that is written so
number_plain : (word : List ℕ) (n : ℕ) → is_decimal word ≡ true → digits_value 10 word ≡ n → number_of word ≡ Some (pos n)
unfolding number_of
number_plain word n form value = rw (form, value) refl

-- a number that is written so, after a `-`
number_minus : (word : List ℕ) (n : ℕ) → is_decimal word ≡ true → digits_value 10 word ≡ suc n → number_of (45 ∷ word) ≡ Some (negsuc n)
unfolding number_of
number_minus word n form value = rw (eqb-suc-zero (length word), form, value) refl

-- a number before what is no part of it
number_word : (word rest : List ℕ) (z : ℤ) → word_len (word ++ rest) ≡ length word → number_of word ≡ Some z → number_at (word ++ rest) ≡ Some (z, rest)
unfolding number_at
number_word word rest z len is = rw (len, take-append_seam word rest, drop-append_seam word rest, is) refl

-- a number is read
pub number_again : (z : ℤ) (rest : List ℕ) → fits_i64 z ≡ true → Apart rest → number_at (signed_decimal z ++ rest) ≡ Some (z, rest)
number_again (pos n) rest fit apart =
    let le = leb-true n 9223372036854775807 fit in
    let lt : n < 2 ^ 64 = omega arith in
    number_word (decimal n) rest (pos n) (word_digits (decimal n) rest (decimal_nonempty n lt) (digits_all n lt) apart)
    (number_plain (decimal n) n (decimal_is n lt) (decimal_is_IsNumeral n lt).1)
number_again (negsuc n) rest fit apart =
    let le = leb-true n 9223372036854775807 fit in
    let lt : suc n < 2 ^ 64 = omega arith in
    number_word (45 ∷ decimal (suc n)) rest (negsuc n) (word_minus (decimal (suc n)) rest (digits_all (suc n) lt) apart)
    (number_minus (decimal (suc n)) n (decimal_is (suc n) lt) (decimal_is_IsNumeral (suc n) lt).1)

-- digits stand first in a text that they begin
digit_first : (word rest : List ℕ) → 0 < length word → list_all is_ascii_digit word ≡ true → 45 ≤ slice_index (word ++ rest) 0
digit_first [] rest some digits = absurd (omega arith)
digit_first (byte ∷ word) rest some digits =
    let high = digit_above byte (and_parts (is_ascii_digit byte) (list_all is_ascii_digit word) digits).0 in omega arith

-- neither a space nor a quote begins a number
pub number_first : (z : ℤ) (rest : List ℕ) → fits_i64 z ≡ true → 45 ≤ slice_index (signed_decimal z ++ rest) 0
number_first (pos n) rest fit =
    let le = leb-true n 9223372036854775807 fit in
    let lt : n < 2 ^ 64 = omega arith in
    digit_first (decimal n) rest (decimal_nonempty n lt) (digits_all n lt)
number_first (negsuc n) rest fit = omega arith
