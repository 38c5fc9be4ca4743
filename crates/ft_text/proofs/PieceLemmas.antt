-- The pieces of a text between separators.
use Rattle.std.proofs.Common.{◌≡◌, ◌+◌, ◌<◌, ◌==◌, ◌∙◌, ap, ap₂, ℕ, Bool, true, false, not, List, [], ◌∷◌, length, take, drop, Some, None, arith, refl, sym, subst, suc, ◌-◌}
use Rattle.std.proofs.lemmas.Grind.{common_steps}
use Rattle.std.proofs.lemmas.List.{take_all, length-drop}
use Rattle.std.specs.Prelude.{if◌then◌else◌, position, cond}
use Rattle.std.specs.List.{position_or_len}
use Rattle.std.proofs.lemmas.List.Sums.{prefix_len-le-length}
use Rattle.ft_text.specs.Items.{Piece, pieces, onto_first_piece}

-- the separator is this byte
abbrev is : ℕ → ℕ → Bool
is separator byte = byte == separator

-- up to the first separator, and after it
cut_first : (separator place : ℕ) (text : List ℕ) → position_or_len (is separator) text < length text → pieces separator place text ≡ record { place = place; bytes = take (position_or_len (is separator) text) text } ∷ pieces separator (place + position_or_len (is separator) text + 1) (drop (position_or_len (is separator) text + 1) text)
cut_first separator place [] inside = absurd (omega arith)
cut_first separator place (byte ∷ text) inside = by (byte == separator) (position_or_len (is separator) text) (cut_first separator (place + 1) text) inside
  where
    behind_one : (n : ℕ) → drop (n + 1) text ≡ drop (1 + n + 1) (byte ∷ text)
    behind_one n =
        let more : suc (n + 1) ≡ 1 + n + 1 = omega arith in
        ap (λ k. drop k (byte ∷ text)) more

    by : (b : Bool) (n : ℕ) → (n < length text → pieces separator (place + 1) text ≡ record { place = place + 1; bytes = take n text } ∷ pieces separator (place + 1 + n + 1) (drop (n + 1) text)) → cond (not b) (1 + n) 0 < length (byte ∷ text) → (if b then (record { place = place; bytes = [] } ∷ pieces separator (place + 1) text) else onto_first_piece place byte (pieces separator (place + 1) text)) ≡ record { place = place; bytes = take (cond (not b) (1 + n) 0) (byte ∷ text) } ∷ pieces separator (place + cond (not b) (1 + n) 0 + 1) (drop (cond (not b) (1 + n) 0 + 1) (byte ∷ text))
    by true n rest inside =
        let same : place + 1 ≡ place + 0 + 1 = omega arith in
        ap (λ p. record { place = place; bytes = [] } ∷ pieces separator p text) same
    by false n rest inside =
        let same : place + 1 + n + 1 ≡ place + (1 + n) + 1 = omega arith in
        let more : suc n ≡ 1 + n = omega arith in
        ap (onto_first_piece place byte) (rest (omega arith)) ∙ ap₂ (λ k rest. record { place = place; bytes = take k (byte ∷ text) } ∷ rest) more (ap₂ (pieces separator) same (behind_one n))

-- no separator: the text is one piece
cut_none : (separator place : ℕ) (text : List ℕ) → position_or_len (is separator) text ≡ length text → pieces separator place text ≡ record { place = place; bytes = text } ∷ []
cut_none separator place [] all = refl
cut_none separator place (byte ∷ text) all = by (byte == separator) (position_or_len (is separator) text) (cut_none separator (place + 1) text) all
  where
    by : (b : Bool) (n : ℕ) → (n ≡ length text → pieces separator (place + 1) text ≡ record { place = place + 1; bytes = text } ∷ []) → cond (not b) (1 + n) 0 ≡ length (byte ∷ text) → (if b then (record { place = place; bytes = [] } ∷ pieces separator (place + 1) text) else onto_first_piece place byte (pieces separator (place + 1) text)) ≡ record { place = place; bytes = byte ∷ text } ∷ []
    by true n rest all = absurd (omega arith)
    by false n rest all = ap (onto_first_piece place byte) (rest (omega arith))

-- the place of the first separator cuts the first piece
pub pieces_cut : (separator place : ℕ) (text : List ℕ) (at : ℕ) → position (is separator) text ≡ Some at → pieces separator place text ≡ record { place = place; bytes = take at text } ∷ pieces separator (place + at + 1) (take (length text - (at + 1)) (drop (at + 1) text))
pieces_cut separator place text at found =
    let here : position_or_len (is separator) text ≡ at = grind (arith, common_steps) in
    let inside : at < length text = grind (arith, common_steps) in
    let cut = subst (λ n. pieces separator place text ≡ record { place = place; bytes = take n text } ∷ pieces separator (place + n + 1) (drop (n + 1) text)) here (cut_first separator place text (omega arith)) in
    let left = length-drop (at + 1) text in
    let whole : take (length text - (at + 1)) (drop (at + 1) text) ≡ drop (at + 1) text = take_all (length text - (at + 1)) (drop (at + 1) text) (omega arith) in
    cut ∙ ap (λ rest. record { place = place; bytes = take at text } ∷ pieces separator (place + at + 1) rest) (sym whole)

-- if there is no separator, the text is one piece
pub pieces_whole : (separator place : ℕ) (text : List ℕ) → position (is separator) text ≡ None → pieces separator place text ≡ record { place = place; bytes = text } ∷ []
pieces_whole separator place text none = let within = prefix_len-le-length (λ byte. not (is separator byte)) text in cut_none separator place text (grind (arith, common_steps))

-- there is at least one piece
pub pieces_some : (separator place : ℕ) (text : List ℕ) → 0 < length (pieces separator place text)
pieces_some separator place [] = omega arith
pieces_some separator place (byte ∷ text) = by (byte == separator) (pieces separator (place + 1) text) (pieces_some separator (place + 1) text)
  where
    by : (b : Bool) (more : List Piece) → 0 < length more → 0 < length (if b then (record { place = place; bytes = [] } ∷ more) else onto_first_piece place byte more)
    by true more some = omega arith
    by false [] some = some
    by false (piece ∷ more) some = omega arith
