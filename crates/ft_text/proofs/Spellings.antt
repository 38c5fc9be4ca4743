-- Names and words as texts spell them, and how they are read.
use Rattle.std.proofs.Common.{◌≡◌, ◌+◌, ◌||◌, ℕ, Bool, true, false, List, [], ◌∷◌, ◌++◌, length, take, drop, Option, Some, None, option_map, refl, sym, ap, ◌∙◌, subst, one-add, slice_index, codes, if◌then◌else◌, ◌==◌, cond, inl, inr, ne_eqb}
use Rattle.std.proofs.Math.Seq.{take-append_seam, drop-append_seam}
use Rattle.std.proofs.lemmas.Bool.{and_parts, or_cases, or_left, or_right, and_left}
use Rattle.std.proofs.lemmas.List.{take-append-drop}
use Rattle.std.proofs.lemmas.Option.{same_Some, cond_some}
use Rattle.std.proofs.lemmas.Slice.Eq.{bytes_eq-Decides}
use Rattle.std.specs.Int.{is_in_range}
use Rattle.std.specs.Char.{is_ascii_alphabetic, is_ascii_alphanumeric}
use Rattle.std.specs.List.{prefix_len, list_all, starts_with, find}
use Rattle.std.specs.Option.{option_and_then}
use Rattle.std.specs.Str.{bytes_eq}
use Rattle.ft_text.specs.Tokens.{begins_name, is_in_name, run_at}
use Rattle.ft_text.specs.Tokens.{name_at}
use Rattle.ft_text.specs.Items.{Word, suffix_of, word_from, word_with, word_of}

-- ---- texts

-- texts that pass the test are equal
pub bytes_same : (a b : List ℕ) → bytes_eq a b ≡ true → a ≡ b
bytes_same a b = (bytes_eq-Decides a b).0

-- a text passes the test against itself
pub bytes_itself : (a : List ℕ) → bytes_eq a a ≡ true
bytes_itself a = (bytes_eq-Decides a a).1 refl

-- what a text begins with stands in front of the rest
pub front_same : (text front : List ℕ) → starts_with ◌==◌ text front ≡ true → text ≡ front ++ drop (length front) text
front_same text front h =
    let same : front ≡ take (length front) text = bytes_same front (take (length front) text) h in
    sym (take-append-drop (length front) text) ∙ ap (λ (t : List ℕ). t ++ drop (length front) text) (sym same)

-- ---- searches

-- what is found passes the test
pub find_passes : {A : Type 0} (test : A → Bool) (xs : List A) (x : A) → find test xs ≡ Some x → test x ≡ true
find_passes test [] x e = absurd cc
find_passes test (y ∷ xs) x e = from (find_passes test xs x) (test y) refl e
  where
    from : (find test xs ≡ Some x → test x ≡ true) → (b : Bool) → test y ≡ b → cond b (Some y) (find test xs) ≡ Some x → test x ≡ true
    from later true is e = subst (λ z. test z ≡ true) (same_Some y x e) is
    from later false is e = later e

-- ---- names

-- the text is a name
pub record IsName (text : List ℕ) : Type 0 where
  pub begins : begins_name (slice_index text 0) ≡ true
  pub inside : list_all is_in_name text ≡ true

-- no letter, no digit and no `_` stands first
abbrev pub Apart : List ℕ → Type 0
Apart rest = is_in_name (slice_index rest 0) ≡ false

-- what a name begins with stands in names
pub begins_inside : (byte : ℕ) → begins_name byte ≡ true → is_in_name byte ≡ true
begins_inside byte h = elim (or_cases (is_ascii_alphabetic byte) (byte == 95) h) [
  | inl letter ↦ or_left (is_ascii_alphanumeric byte) (byte == 95) (letter_inside letter)
  | inr line ↦ or_right (is_ascii_alphanumeric byte) (byte == 95) line
]
  where
    letter_inside : is_ascii_alphabetic byte ≡ true → is_ascii_alphanumeric byte ≡ true
    letter_inside letter = elim (or_cases (is_in_range 65 90 byte) (is_in_range 97 122 byte) letter) [
      | inl upper ↦ or_left (is_in_range 48 57 byte || is_in_range 65 90 byte) (is_in_range 97 122 byte) (or_right (is_in_range 48 57 byte) (is_in_range 65 90 byte) upper)
      | inr lower ↦ or_right (is_in_range 48 57 byte || is_in_range 65 90 byte) (is_in_range 97 122 byte) lower
    ]

-- a run holds bytes that pass
pub run_passes : (test : ℕ → Bool) (text : List ℕ) → list_all test (take (prefix_len test text) text) ≡ true
run_passes test [] = refl
run_passes test (byte ∷ text) = from (run_passes test text) (test byte) refl
  where
    from : list_all test (take (prefix_len test text) text) ≡ true → (b : Bool) → test byte ≡ b → list_all test (take (if b then 1 + prefix_len test text else 0) (byte ∷ text)) ≡ true
    from rest false is = refl
    from rest true is = rw (one-add, is) rest

-- a run that begins begins as the text does
run_begins : (byte : ℕ) (text : List ℕ) → is_in_name byte ≡ true → slice_index (take (prefix_len is_in_name (byte ∷ text)) (byte ∷ text)) 0 ≡ byte
run_begins byte text inside = rw (inside, one-add) refl

-- the run that a text begins with is a name, if its first byte may begin one
run_is_name : (text : List ℕ) → begins_name (slice_index text 0) ≡ true → IsName (take (prefix_len is_in_name text) text)
run_is_name [] h = absurd cc
run_is_name (byte ∷ text) h = record { begins = ap begins_name (run_begins byte text (begins_inside byte h)) ∙ h; inside = run_passes is_in_name (byte ∷ text) }

-- what is read as a name is one, and stands in front
pub name_parts : (text : List ℕ) (cut : List ℕ × List ℕ) → name_at text ≡ Some cut → IsName cut.0 × (text ≡ cut.0 ++ cut.1)
unfolding name_at
name_parts text cut e =
    let found = cond_some (begins_name (slice_index text 0)) (run_at is_in_name text) cut e in
    subst (λ (c : List ℕ × List ℕ). IsName c.0 × (text ≡ c.0 ++ c.1)) found.1 (run_is_name text found.0, sym (take-append-drop (prefix_len is_in_name text) text))

-- a front of bytes that pass is the run
pub run_front : (test : ℕ → Bool) (front rest : List ℕ) → list_all test front ≡ true → prefix_len test rest ≡ 0 → prefix_len test (front ++ rest) ≡ length front
run_front test [] rest all ends = ends
run_front test (byte ∷ front) rest all ends =
    let both = and_parts (test byte) (list_all test front) all in
    let more = run_front test front rest both.1 ends in
    let here = both.0 in
    rw (here, more, one-add) refl

-- a run ends before a byte that does not pass
pub stops : (test : ℕ → Bool) (rest : List ℕ) → test (slice_index rest 0) ≡ false → prefix_len test rest ≡ 0
stops test [] h = refl
stops test (byte ∷ rest) h = rw h refl

-- the first byte of a name stands first in a text that it begins
pub name_begins : (name rest : List ℕ) → IsName name → begins_name (slice_index (name ++ rest) 0) ≡ true
name_begins [] rest h = absurd (let e = h.begins in cc)
name_begins (byte ∷ name) rest h = h.begins

-- a name before what is no part of it
pub name_again : (name rest : List ℕ) → IsName name → Apart rest → name_at (name ++ rest) ≡ Some (name, rest)
unfolding name_at
name_again name rest h apart =
    rw (name_begins name rest h, run_front is_in_name name rest h.inside (stops is_in_name rest apart), take-append_seam name rest, drop-append_seam name rest) refl

-- ---- words

-- what is after a word's name
abbrev pub suffix_text : Option (List ℕ) → List ℕ
suffix_text None = []
suffix_text (Some suffix) = 46 ∷ suffix

-- a word's text
abbrev pub word_text : Word → List ℕ
word_text word = (if word.dollar then codes "$" else []) ++ word.name ++ suffix_text word.suffix

-- a suffix is not empty
abbrev pub IsSuffix : Option (List ℕ) → Type 0
IsSuffix None = Unit {0}
IsSuffix (Some []) = ⊥
IsSuffix (Some (byte ∷ suffix)) = Unit {0}

-- the name of a word that is read is one
word_with_name : (dollar : Bool) (text : List ℕ) (word : Word) → word_with dollar text ≡ Some word → IsName word.name
unfolding word_with
word_with_name dollar text word e = from (name_at text) refl e
  where
    inner : (cut : List ℕ × List ℕ) (o : Option (Option (List ℕ))) → IsName cut.0 → option_map (λ suffix. record { dollar = dollar; name = cut.0; suffix = suffix }) o ≡ Some word → IsName word.name
    inner cut None name e = absurd cc
    inner cut (Some suffix) name e = subst (λ (w : Word). IsName w.name) (same_Some _ _ e) name

    from : (o : Option (List ℕ × List ℕ)) → name_at text ≡ o → option_and_then (word_from dollar) o ≡ Some word → IsName word.name
    from None is e = absurd cc
    from (Some cut) is e = inner cut (suffix_of cut.1) (name_parts text cut is).0 e

-- so is that of an item
pub word_name : (item : List ℕ) (word : Word) → word_of item ≡ Some word → IsName word.name
unfolding word_of
word_name item word e = from (starts_with ◌==◌ item (codes "$")) e
  where
    from : (b : Bool) → cond b (word_with true (drop 1 item)) (word_with false item) ≡ Some word → IsName word.name
    from true e = word_with_name true (drop 1 item) word e
    from false e = word_with_name false item word e

-- what may stand after a name
suffix_apart : (suffix : Option (List ℕ)) → Apart (suffix_text suffix)
suffix_apart None = refl
suffix_apart (Some suffix) = refl

-- a suffix is read
suffix_again : (suffix : Option (List ℕ)) → IsSuffix suffix → suffix_of (suffix_text suffix) ≡ Some suffix
suffix_again None h = refl
suffix_again (Some []) h = absurd h
suffix_again (Some (byte ∷ suffix)) h = refl

-- a name and a suffix are read
word_with_again : (dollar : Bool) (name : List ℕ) (suffix : Option (List ℕ)) → IsName name → IsSuffix suffix
    → word_with dollar (name ++ suffix_text suffix) ≡ Some (record { dollar = dollar; name = name; suffix = suffix })
unfolding word_with
word_with_again dollar name suffix named ends = rw (name_again name (suffix_text suffix) named (suffix_apart suffix), suffix_again suffix ends) refl

-- no `$` begins a name
no_dollar : (name rest : List ℕ) → IsName name → starts_with ◌==◌ (name ++ rest) (codes "$") ≡ false
no_dollar [] rest h = absurd (let e = h.begins in cc)
no_dollar (byte ∷ name) rest h = and_left (36 == byte) true (ne_eqb 36 byte (λ e. absurd (let x : begins_name 36 ≡ true = ap begins_name e ∙ h.begins in cc)))

-- a word's text is read
pub word_again : (word : Word) → IsName word.name → IsSuffix word.suffix → word_of (word_text word) ≡ Some word
unfolding word_of
word_again word named ends = from word.dollar
  where
    from : (dollar : Bool) → word_of ((if dollar then codes "$" else []) ++ word.name ++ suffix_text word.suffix) ≡ Some (record { dollar = dollar; name = word.name; suffix = word.suffix })
    from true = word_with_again true word.name word.suffix named ends
    from false = rw (no_dollar word.name (suffix_text word.suffix) named) (word_with_again false word.name word.suffix named ends)
