-- STAMP's word, cut at its end: a colon last, six digits before it, a point before these.
use Rattle.std.proofs.Common.{◌≡◌, ◌≢◌, ◌≤◌, ◌<◌, ℕ, suc, ◌+◌, ◌*◌, List, [], ◌∷◌, ◌++◌, take, drop, length, get_or, get_or-drop, length-drop, length-take-le, length-append, Option, Some, None, refl, sym, ap, ◌∙◌, subst, arith}
use Rattle.std.proofs.Math.Seq.{split_at, take-append_seam, get_or-append_seam, drop-append-add}
use Rattle.std.proofs.lemmas.List.{drop_all}
use Rattle.std.specs.Str.Parse.{digits_value}
use Rattle.ft_event.specs.Spans.{limited_number}
use Rattle.ft_event.specs.Columns.{micros_of}
use Rattle.ft_fields.specs.Traced.{last_second}
use Rattle.ft_event.proofs.Digits.{below_million, limited_number-within, limited_number-some}
use Rattle.ft_event.proofs.Stamps.{stamp_text, IsStampText, micros_of-is, micros_of-some}

-- a word with a point and a colon at their places is of that form
joined : (word : List ℕ) (point : ℕ) → point + 8 ≡ length word → get_or word point 0 ≡ 46 → get_or word (point + 7) 0 ≡ 58
    → word ≡ stamp_text (take point word) (take 6 (drop (suc point) word))
joined word point len dot colon =
    let rest : List ℕ = drop (suc point) word in
    let left : length rest ≡ 7 = omega (arith, length-drop (suc point) word) in
    let last : get_or rest 6 0 ≡ 58 = get_or-drop (suc point) word 6 0 ∙ ap (λ (n : ℕ). get_or word n 0) (omega arith) ∙ colon in
    let inner : rest ≡ take 6 rest ++ get_or rest 6 0 ∷ drop 7 rest = split_at rest 6 0 (omega arith) in
    let none : drop 7 rest ≡ [] = drop_all 7 rest (omega arith) in
    let behind : rest ≡ take 6 rest ++ 58 ∷ [] = inner ∙ ap (λ (t : List ℕ). take 6 rest ++ t) (ap (λ (b : ℕ). b ∷ drop 7 rest) last ∙ ap (λ (t : List ℕ). 58 ∷ t) none) in
    split_at word point 0 (omega arith) ∙ ap (λ (t : List ℕ). take point word ++ t) (ap (λ (b : ℕ). b ∷ rest) dot ∙ ap (λ (t : List ℕ). 46 ∷ t) behind)

-- the parts of a word of that form stand at these places
record Places (word seconds micros : List ℕ) : Type 0 where
  len : length word ≡ length seconds + 8
  front : take (length seconds) word ≡ seconds
  dot : get_or word (length seconds) 0 ≡ 46
  digits : take 6 (drop (suc (length seconds)) word) ≡ micros
  colon : get_or word (length seconds + 7) 0 ≡ 58

places : (seconds micros : List ℕ) → length micros ≡ 6 → Places (stamp_text seconds micros) seconds micros
places seconds micros six =
    let word : List ℕ = stamp_text seconds micros in
    let end : List ℕ = micros ++ (58 ∷ []) in
    let next : suc (length seconds) ≡ length seconds + 1 = omega arith in
    let last : length seconds + 7 ≡ suc (length seconds) + 6 = omega arith in
    let rest : drop (suc (length seconds)) word ≡ end = ap (λ (n : ℕ). drop n word) next ∙ drop-append-add seconds (46 ∷ end) 1 in
    let total : suc (length end) ≡ 8 = omega (arith, length-append micros (58 ∷ [])) in
    record {
      len = length-append seconds (46 ∷ end) ∙ ap (λ (n : ℕ). length seconds + n) total;
      front = take-append_seam seconds (46 ∷ end);
      dot = get_or-append_seam seconds 46 end 0;
      digits = ap (take 6) rest ∙ ap (λ (n : ℕ). take n end) (sym six) ∙ take-append_seam micros (58 ∷ []);
      colon = ap (λ (n : ℕ). get_or word n 0) last ∙ sym (get_or-drop (suc (length seconds)) word 6 0) ∙ ap (λ (t : List ℕ). get_or t 6 0) rest ∙ ap (λ (n : ℕ). get_or end n 0) (sym six) ∙ get_or-append_seam micros 58 [] 0;
    }

-- both numbers, at these places, are STAMP
pub stamp_found : (word : List ℕ) (point whole part : ℕ) → point + 8 ≡ length word → 0 < point → point ≤ 10 → get_or word point 0 ≡ 46 → get_or word (point + 7) 0 ≡ 58
    → limited_number last_second (take point word) ≡ Some whole → limited_number 999999 (take 6 (drop (suc point) word)) ≡ Some part → micros_of word ≡ Some (whole * 1000000 + part)
stamp_found word point whole part len some short dot colon is_whole is_part =
    let w = limited_number-some last_second (take point word) whole is_whole in
    let p = limited_number-some 999999 (take 6 (drop (suc point) word)) part is_part in
    let seconds : length (take point word) ≡ point = omega (arith, length-take-le point word (omega arith)) in
    let micros : length (take 6 (drop (suc point) word)) ≡ 6 = length-take-le 6 (drop (suc point) word) (omega (arith, length-drop (suc point) word)) in
    micros_of-is word (whole * 1000000 + part) (record {
      seconds = take point word;
      micros = take 6 (drop (suc point) word);
      joined = joined word point len dot colon;
      seconds_digits = (omega arith, w.digits);
      seconds_short = omega arith;
      seconds_within = w.within;
      micros_digits = (omega arith, p.digits);
      micros_six = micros;
      value = rw (w.value, p.value) refl;
    })

-- what a word says that is STAMP
pub record Stamped (word : List ℕ) : Type 0 where
  pub point : ℕ
  pub len : length word ≡ point + 8
  pub some : 0 < point
  pub short : point ≤ 10
  pub dot : get_or word point 0 ≡ 46
  pub colon : get_or word (point + 7) 0 ≡ 58
  pub whole : limited_number last_second (take point word) ≢ None
  pub part : limited_number 999999 (take 6 (drop (suc point) word)) ≢ None

stamped : (word : List ℕ) (stamp : ℕ) → IsStampText word stamp → Stamped word
stamped word stamp h =
    let at : Places word h.seconds h.micros = subst (λ (t : List ℕ). Places t h.seconds h.micros) (sym h.joined) (places h.seconds h.micros h.micros_six) in
    let whole : limited_number last_second (take (length h.seconds) word) ≡ Some (digits_value 10 h.seconds) = ap (limited_number last_second) at.front ∙ limited_number-within last_second h.seconds h.seconds_digits.1 h.seconds_within in
    let part : limited_number 999999 (take 6 (drop (suc (length h.seconds)) word)) ≡ Some (digits_value 10 h.micros) =
    ap (limited_number 999999) at.digits ∙ limited_number-within 999999 h.micros h.micros_digits.1 (below_million h.micros h.micros_digits.1 h.micros_six) in
    record {
      point = length h.seconds;
      len = at.len;
      some = h.seconds_digits.0;
      short = h.seconds_short;
      dot = at.dot;
      colon = at.colon;
      whole = λ none. cc (whole, none);
      part = λ none. cc (part, none);
    }

-- a word that cannot be STAMP
pub no_stamp : (word : List ℕ) → (Stamped word → ⊥) → None ≡ micros_of word
no_stamp word fails = from (micros_of word) refl
  where
    from : (o : Option ℕ) → micros_of word ≡ o → None ≡ micros_of word
    from None e = sym e
    from (Some stamp) e = absurd (fails (stamped word stamp (micros_of-some word stamp e)))
