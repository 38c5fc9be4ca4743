-- LETTERS and STAMP: what is read is the one cut of the text after CPU.
use Rattle.std.proofs.Common.{◌≡◌, ◌⊎◌, ◌≤◌, ◌<◌, ℕ, ◌+◌, ◌*◌, Bool, true, false, not, ◌||◌, cond, inl, inr, subst, List, [], ◌∷◌, ◌++◌, take, length, Some, None, refl, sym, ap, ◌∙◌, append_assoc, arith, eqb, ltb, length-append}
use Rattle.std.proofs.lemmas.Bool.{cases_Bool, cases_lt, and_parts, and_from, or_parts, or_right, eqb-true, eq-eqb, ne_eqb, ltb-false, le-ltb, lt-ltb, leb-true, not-true, not-false, both_ways}
use Rattle.std.proofs.lemmas.List.{nil_from_length}
use Rattle.std.proofs.lemmas.List.Folds.{list_any-append, list_all-append}
use Rattle.std.proofs.lemmas.Option.{same_Some}
use Rattle.std.specs.Prelude.{codes}
use Rattle.std.specs.List.{prefix_len, list_all, list_any}
use Rattle.std.specs.Str.Parse.{digits_value}
use Rattle.ft_event.specs.Bytes.{is_space, is_in_word, is_digit, is_colon}
use Rattle.ft_event.specs.Spans.{leading_run, behind, leading_word, without_spaces, limited_number}
use Rattle.ft_event.specs.Columns.{stamp_word_of, micros_of, stamp_of}
use Rattle.ft_event.specs.LineIs.{Stops, IsSpaces, IsGap, IsDigits, IsLetters, IsStamped}
use Rattle.ft_fields.specs.Traced.{last_second}
use Rattle.ft_event.proofs.Runs.{run_splits, run_is, rest_is, leading_run-append, leading_run-some, behind-append, behind-some}
use Rattle.ft_event.proofs.Digits.{below_million, limited_number-within, limited_number-some}
use Rattle.ft_event.proofs.Heads.{bind_some}

-- ---- words and spaces

-- a test that another one implies
pub all_weaker : (p q : ℕ → Bool) → ((b : ℕ) → p b ≡ true → q b ≡ true) → (text : List ℕ) → list_all p text ≡ true → list_all q text ≡ true
all_weaker p q weaker [] h = refl
all_weaker p q weaker (b ∷ text) h =
    let both = and_parts (p b) (list_all p text) h in
    and_from _ _ (weaker b both.0) (all_weaker p q weaker text both.1)

pub digit_in_word : (b : ℕ) → is_digit b ≡ true → is_in_word b ≡ true
digit_in_word b h =
    let low : 48 ≤ b = leb-true 48 b (and_parts _ _ h).0 in
    let other : eqb b 32 ≡ false = ne_eqb b 32 (λ e. omega arith) in
    rw other refl

-- a word ends the spaces before it
word_stops : (word rest : List ℕ) → 0 < length word → list_all is_in_word word ≡ true → Stops is_space (word ++ rest)
word_stops [] rest some h = absurd (omega arith)
word_stops (b ∷ word) rest some h = not-true (eqb b 32) (and_parts _ _ h).0

-- a gap ends the word before it
gap_stops : (gap rest : List ℕ) → IsGap gap → Stops is_in_word (gap ++ rest)
gap_stops [] rest h = absurd (omega (arith, h.0))
gap_stops (b ∷ gap) rest h =
    let space : eqb b 32 ≡ true = (and_parts _ _ h.1).0 in
    rw space refl

-- where neither a word nor a space begins, the text ends
nothing_left : (text : List ℕ) → Stops is_space text → Stops is_in_word text → text ≡ []
nothing_left [] space word = refl
nothing_left (b ∷ text) space word = absurd (both_ways (eqb b 32) space (not-false (eqb b 32) word))

-- the next word, between spaces and what ends it
next_word : (gap word rest : List ℕ) → IsSpaces gap → 0 < length word → list_all is_in_word word ≡ true → Stops is_in_word rest → leading_word (without_spaces (gap ++ (word ++ rest))) ≡ (word, rest)
next_word gap word rest spaces some in_word ends =
    let after : without_spaces (gap ++ (word ++ rest)) ≡ word ++ rest = rest_is is_space gap (word ++ rest) spaces (word_stops word rest some in_word) in
    ap leading_word after ∙ rw (run_is is_in_word word rest in_word ends, rest_is is_in_word word rest in_word ends) refl

-- ---- STAMP's own form

abbrev pub stamp_text : List ℕ → List ℕ → List ℕ
stamp_text seconds micros = seconds ++ (46 ∷ (micros ++ (58 ∷ [])))

-- what a word of STAMP's form says
pub record IsStampText (word : List ℕ) (stamp : ℕ) : Type 0 where
  pub seconds : List ℕ
  pub micros : List ℕ
  pub joined : word ≡ stamp_text seconds micros
  pub seconds_digits : IsDigits seconds
  pub seconds_short : length seconds ≤ 10
  pub seconds_within : digits_value 10 seconds ≤ last_second
  pub micros_digits : IsDigits micros
  pub micros_six : length micros ≡ 6
  pub value : stamp ≡ digits_value 10 seconds * 1000000 + digits_value 10 micros

pub micros_of-is : (word : List ℕ) (stamp : ℕ) → IsStampText word stamp → micros_of word ≡ Some stamp
unfolding micros_of
micros_of-is word stamp h =
    let behind_seconds : List ℕ = 46 ∷ (h.micros ++ (58 ∷ [])) in
    let seconds = leading_run-append is_digit h.seconds behind_seconds h.seconds_digits.0 h.seconds_digits.1 refl in
    let point : behind (codes ".") behind_seconds ≡ Some (h.micros ++ (58 ∷ [])) = behind-append (codes ".") (h.micros ++ (58 ∷ [])) in
    let micros = leading_run-append is_digit h.micros (58 ∷ []) h.micros_digits.0 h.micros_digits.1 refl in
    let end : behind (codes ":") (58 ∷ []) ≡ Some [] = behind-append (codes ":") [] in
    let whole = limited_number-within last_second h.seconds h.seconds_digits.1 h.seconds_within in
    let part = limited_number-within 999999 h.micros h.micros_digits.1 (below_million h.micros h.micros_digits.1 h.micros_six) in
    let short : ltb 10 (length h.seconds) ≡ false = le-ltb 10 (length h.seconds) h.seconds_short in
    let six : eqb (length h.micros) 6 ≡ true = eq-eqb _ _ h.micros_six in
    rw (h.joined, seconds, point, micros, end, whole, part, short, six, h.value) refl

-- the three tests on lengths, none of which held
lengths : (seconds micros end : List ℕ) (x y : ℕ) → cond ((ltb 10 (length seconds) || not (eqb (length micros) 6)) || not (eqb (length end) 0)) None (Some x) ≡ Some y → (length seconds ≤ 10) × (length micros ≡ 6) × (end ≡ []) × (x ≡ y)
lengths seconds micros end x y e = from ((ltb 10 (length seconds) || not (eqb (length micros) 6)) || not (eqb (length end) 0)) refl e
  where
    from : (b : Bool) → ((ltb 10 (length seconds) || not (eqb (length micros) 6)) || not (eqb (length end) 0)) ≡ b → cond b None (Some x) ≡ Some y → (length seconds ≤ 10) × (length micros ≡ 6) × (end ≡ []) × (x ≡ y)
    from true h f = absurd cc
    from false h f =
        let outer = or_parts _ _ h in
        let inner = or_parts _ _ outer.0 in
        (ltb-false _ _ inner.0, eqb-true _ _ (not-false _ inner.1), nil_from_length end (eqb-true _ _ (not-false _ outer.1)), same_Some x y f)

pub micros_of-some : (word : List ℕ) (stamp : ℕ) → micros_of word ≡ Some stamp → IsStampText word stamp
unfolding micros_of
micros_of-some word stamp e =
    let seconds = bind_some (leading_run is_digit word) _ stamp e in
    let point = bind_some (behind (codes ".") seconds.0.1) _ stamp seconds.2 in
    let micros = bind_some (leading_run is_digit point.0) _ stamp point.2 in
    let end = bind_some (behind (codes ":") micros.0.1) _ stamp micros.2 in
    let whole = bind_some (limited_number last_second seconds.0.0) _ stamp end.2 in
    let part = bind_some (limited_number 999999 micros.0.0) _ stamp whole.2 in
    let fits = lengths seconds.0.0 micros.0.0 end.0 (whole.0 * 1000000 + part.0) stamp part.2 in
    let s = leading_run-some is_digit word seconds.0 seconds.1 in
    let p = behind-some (codes ".") seconds.0.1 point.0 point.1 in
    let m = leading_run-some is_digit point.0 micros.0 micros.1 in
    let c = behind-some (codes ":") micros.0.1 end.0 end.1 in
    let w = limited_number-some last_second seconds.0.0 whole.0 whole.1 in
    let n = limited_number-some 999999 micros.0.0 part.0 part.1 in
    record {
      seconds = seconds.0.0;
      micros = micros.0.0;
      joined = s.joined ∙ ap (λ (t : List ℕ). seconds.0.0 ++ t) (p ∙ ap (λ (t : List ℕ). 46 ∷ t) (m.joined ∙ ap (λ (t : List ℕ). micros.0.0 ++ t) (c ∙ ap (λ (t : List ℕ). 58 ∷ t) fits.2)));
      seconds_digits = (s.some, s.passes);
      seconds_short = fits.0;
      seconds_within = w.within;
      micros_digits = (m.some, m.passes);
      micros_six = fits.1;
      value = sym fits.3 ∙ rw (w.value, n.value) refl;
    }

-- a word of STAMP's form is a word, and holds a colon
stamp_in_word : (seconds micros : List ℕ) → IsDigits seconds → IsDigits micros → list_all is_in_word (stamp_text seconds micros) ≡ true
stamp_in_word seconds micros s m =
    let back : list_all is_in_word (46 ∷ (micros ++ (58 ∷ []))) ≡ true = list_all-append is_in_word micros (58 ∷ []) ∙ and_from _ _ (all_weaker is_digit is_in_word digit_in_word micros m.1) refl in
    list_all-append is_in_word seconds _ ∙ and_from _ _ (all_weaker is_digit is_in_word digit_in_word seconds s.1) back

stamp_some : (seconds micros : List ℕ) → 0 < length (stamp_text seconds micros)
stamp_some [] micros = omega arith
stamp_some (b ∷ seconds) micros = omega arith

stamp_colon : (seconds micros : List ℕ) → list_any is_colon (stamp_text seconds micros) ≡ true
stamp_colon seconds micros =
    let back : list_any is_colon (46 ∷ (micros ++ (58 ∷ []))) ≡ true = list_any-append is_colon micros (58 ∷ []) ∙ or_right _ _ refl in
    list_any-append is_colon seconds _ ∙ or_right _ _ back

-- ---- the word that is STAMP

-- the text is spaces, perhaps LETTERS, a word, and the rest
pub record IsStampWord (text word rest : List ℕ) : Type 0 where
  pub gap : List ℕ
  pub column : List ℕ
  pub joined : text ≡ gap ++ (column ++ (word ++ rest))
  pub before : IsSpaces gap
  pub letters : (column ≡ []) ⊎ IsLetters column
  pub in_word : list_all is_in_word word ≡ true
  pub ends : Stops is_in_word rest

-- the first word holds a colon
first_is : (text word rest : List ℕ) → leading_word (without_spaces text) ≡ (word, rest) → list_any is_colon word ≡ true → stamp_word_of text ≡ Some (word, rest)
unfolding stamp_word_of
first_is text word rest e colon =
    let front = ap (λ (x : List ℕ × List ℕ). x.0) e in
    let back = ap (λ (x : List ℕ × List ℕ). x.1) e in
    rw (front, colon, back) refl

-- the first word is LETTERS
second_is : (text letters after : List ℕ) (second : List ℕ × List ℕ) → leading_word (without_spaces text) ≡ (letters, after) → list_any is_colon letters ≡ false → length letters ≤ 16 → leading_word (without_spaces after) ≡ second → stamp_word_of text ≡ Some second
unfolding stamp_word_of
second_is text letters after second e no_colon short f =
    let fits : ltb 16 (length letters) ≡ false = le-ltb 16 (length letters) short in
    let front = ap (λ (x : List ℕ × List ℕ). x.0) e in
    let back = ap (λ (x : List ℕ × List ℕ). x.1) e in
    rw (front, no_colon, fits, back) (ap (λ (x : List ℕ × List ℕ). Some x) f)

stamp_word_of-is : (text word rest : List ℕ) → IsStampWord text word rest → 0 < length word → list_any is_colon word ≡ true → stamp_word_of text ≡ Some (word, rest)
stamp_word_of-is text word rest h some colon =
    elim h.letters [
      | inl none ↦
          let joined : text ≡ h.gap ++ (word ++ rest) = h.joined ∙ ap (λ (t : List ℕ). h.gap ++ (t ++ (word ++ rest))) none in
          first_is text word rest (ap (λ (t : List ℕ). leading_word (without_spaces t)) joined ∙ next_word h.gap word rest h.before some h.in_word h.ends) colon
      | inr l ↦
          let after : List ℕ = l.gap ++ (word ++ rest) in
          let joined : text ≡ h.gap ++ (l.letters ++ after) = h.joined ∙ ap (λ (t : List ℕ). h.gap ++ t) (ap (λ (t : List ℕ). t ++ (word ++ rest)) l.joined ∙ append_assoc l.letters l.gap (word ++ rest)) in
          let first : leading_word (without_spaces text) ≡ (l.letters, after) =
          ap (λ (t : List ℕ). leading_word (without_spaces t)) joined ∙ next_word h.gap l.letters after h.before l.some l.word (gap_stops l.gap (word ++ rest) l.behind) in
          second_is text l.letters after (word, rest) first l.no_colon l.short (next_word l.gap word rest l.behind.1 some h.in_word h.ends)
    ]

-- spaces that stand before a word that is not empty are a gap, if a word ends before them
is_gap : (gap rest : List ℕ) → IsSpaces gap → Stops is_in_word (gap ++ rest) → Stops is_space rest → 0 < length rest → IsGap gap
is_gap [] rest spaces ends stops some = absurd (omega (arith, ap length (nothing_left rest stops ends)))
is_gap (b ∷ gap) rest spaces ends stops some = (omega arith, spaces)

-- a word before which no space stands is empty only if nothing is left
some_word : (word rest : List ℕ) → Stops is_space (word ++ rest) → Stops is_in_word rest → 0 < length (word ++ rest) → 0 < length word
some_word [] rest stops ends some = absurd (omega (arith, ap length (nothing_left rest stops ends)))
some_word (b ∷ word) rest stops ends some = omega arith

-- what the second word's cut says, with LETTERS before it
behind_letters : (text gap letters after gap' word rest : List ℕ) → text ≡ gap ++ (letters ++ after) → IsSpaces gap → list_all is_in_word letters ≡ true → Stops is_space (letters ++ after) → Stops is_in_word after
    → after ≡ gap' ++ (word ++ rest) → IsSpaces gap' → list_all is_in_word word ≡ true → Stops is_space (word ++ rest) → Stops is_in_word rest → 0 < length word
    → list_any is_colon letters ≡ false → length letters ≤ 16 → IsStampWord text word rest
behind_letters text gap letters after gap' word rest joined spaces in_word stops ends joined' spaces' in_word' stops' ends' some no_colon short =
    let len : length after ≡ length gap' + (length word + length rest) = ap length joined' ∙ length-append gap' (word ++ rest) ∙ ap (λ (n : ℕ). length gap' + n) (length-append word rest) in
    let more : 0 < length (word ++ rest) = omega (arith, length-append word rest) in
    let whole : 0 < length (letters ++ after) = omega (arith, length-append letters after) in
    record {
      gap = gap;
      column = letters ++ gap';
      joined = joined ∙ ap (λ (t : List ℕ). gap ++ t) (ap (λ (t : List ℕ). letters ++ t) joined' ∙ sym (append_assoc letters gap' (word ++ rest)));
      before = spaces;
      letters = inr (record {
        letters = letters;
        gap = gap';
        joined = refl;
        some = some_word letters after stops ends whole;
        short = short;
        word = in_word;
        no_colon = no_colon;
        behind = is_gap gap' (word ++ rest) spaces' (subst (Stops is_in_word) joined' ends) stops' more;
      });
      in_word = in_word';
      ends = ends';
    }

-- the cut that a word's place in the text makes
pub record NextWord (text word rest : List ℕ) : Type 0 where
  pub gap : List ℕ
  pub joined : text ≡ gap ++ (word ++ rest)
  pub spaces : IsSpaces gap
  pub in_word : list_all is_in_word word ≡ true
  pub stops : Stops is_space (word ++ rest)
  pub ends : Stops is_in_word rest

next_word_splits : (text : List ℕ) → NextWord text (leading_word (without_spaces text)).0 (leading_word (without_spaces text)).1
next_word_splits text =
    let s = run_splits is_space text in
    let w = run_splits is_in_word (without_spaces text) in
    record {
      gap = take (prefix_len is_space text) text;
      joined = s.joined ∙ ap (λ (t : List ℕ). take (prefix_len is_space text) text ++ t) w.joined;
      spaces = s.passes;
      in_word = w.passes;
      stops = subst (Stops is_space) w.joined s.stops;
      ends = w.stops;
    }

stamp_word_of-some : (text : List ℕ) (r : List ℕ × List ℕ) → stamp_word_of text ≡ Some r → 0 < length r.0 → IsStampWord text r.0 r.1
unfolding stamp_word_of
stamp_word_of-some text r e some =
    let first = next_word_splits text in
    elim (cases_Bool (list_any is_colon (leading_word (without_spaces text)).0)) [
      | inl colon ↦
          let same : leading_word (without_spaces text) ≡ r = same_Some _ _ (rw colon at e) in
          subst (λ (x : List ℕ × List ℕ). IsStampWord text x.0 x.1) same
          (record { gap = first.gap; column = []; joined = first.joined; before = first.spaces; letters = inl refl; in_word = first.in_word; ends = first.ends })
      | inr no_colon ↦
          let f = rw no_colon at e in
          elim (cases_lt 16 (length (leading_word (without_spaces text)).0)) [
            | inl long ↦
                let is_long : ltb 16 (length (leading_word (without_spaces text)).0) ≡ true = lt-ltb _ _ long in
                let g = rw is_long at f in absurd cc
            | inr short ↦
                let is_short : ltb 16 (length (leading_word (without_spaces text)).0) ≡ false = le-ltb _ _ short in
                let after : List ℕ = (leading_word (without_spaces text)).1 in
                let second = next_word_splits after in
                let same : leading_word (without_spaces after) ≡ r = same_Some _ _ (rw is_short at f) in
                let some' : 0 < length (leading_word (without_spaces after)).0 = subst (λ (x : List ℕ × List ℕ). 0 < length x.0) (sym same) some in
                subst (λ (x : List ℕ × List ℕ). IsStampWord text x.0 x.1) same
                (behind_letters text first.gap _ after second.gap _ _ first.joined first.spaces first.in_word first.stops first.ends second.joined second.spaces second.in_word second.stops second.ends some' no_colon short)
          ]
    ]

-- ---- the stamp

rejoined : (gap column seconds micros rest : List ℕ) → gap ++ column ++ seconds ++ codes "." ++ micros ++ codes ":" ++ rest ≡ gap ++ (column ++ (stamp_text seconds micros ++ rest))
rejoined gap column seconds micros rest = simp append_assoc

-- what is read is the cut
pub stamp_of-is : (text : List ℕ) (stamp : ℕ) (rest : List ℕ) → IsStamped text stamp rest → stamp_of text ≡ Some (stamp, rest)
unfolding stamp_of
stamp_of-is text stamp rest h =
    let word : List ℕ = stamp_text h.seconds h.micros in
    let cut : IsStampWord text word rest = record {
      gap = h.gap;
      column = h.column;
      joined = h.joined ∙ rejoined h.gap h.column h.seconds h.micros rest;
      before = h.before;
      letters = h.letters;
      in_word = stamp_in_word h.seconds h.micros h.seconds_digits h.micros_digits;
      ends = h.ends;
    } in
    let is : IsStampText word stamp = record {
      seconds = h.seconds;
      micros = h.micros;
      joined = refl;
      seconds_digits = h.seconds_digits;
      seconds_short = h.seconds_short;
      seconds_within = h.seconds_within;
      micros_digits = h.micros_digits;
      micros_six = h.micros_six;
      value = h.value;
    } in
    rw (stamp_word_of-is text word rest cut (stamp_some h.seconds h.micros) (stamp_colon h.seconds h.micros), micros_of-is word stamp is) refl

pub stamp_of-some : (text : List ℕ) (r : ℕ × List ℕ) → stamp_of text ≡ Some r → IsStamped text r.0 r.1
unfolding stamp_of
stamp_of-some text r e =
    let word = bind_some (stamp_word_of text) _ r e in
    let micros = bind_some (micros_of word.0.0) _ r word.2 in
    let is = micros_of-some word.0.0 micros.0 micros.1 in
    let some : 0 < length word.0.0 = rw is.joined (stamp_some is.seconds is.micros) in
    let cut = stamp_word_of-some text word.0 word.1 some in
    let found : IsStamped text micros.0 word.0.1 = record {
      gap = cut.gap;
      column = cut.column;
      seconds = is.seconds;
      micros = is.micros;
      joined = cut.joined ∙ ap (λ (t : List ℕ). cut.gap ++ (cut.column ++ (t ++ word.0.1))) is.joined ∙ sym (rejoined cut.gap cut.column is.seconds is.micros word.0.1);
      before = cut.before;
      letters = cut.letters;
      seconds_digits = is.seconds_digits;
      seconds_short = is.seconds_short;
      seconds_within = is.seconds_within;
      micros_digits = is.micros_digits;
      micros_six = is.micros_six;
      ends = cut.ends;
      value = is.value;
    } in
    subst (λ (x : ℕ × List ℕ). IsStamped text x.0 x.1) (same_Some _ _ micros.2) found
