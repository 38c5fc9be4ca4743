-- Laws of the lines of a text that is read part by part.
use Rattle.std.proofs.Common.{◌≡◌, ◌≢◌, ℕ, ◌<◌, Bool, true, false, List, [], ◌∷◌, ◌++◌, All, length, eqb, refl, sym, ap, ◌∙◌, append_assoc, ne_eqb, arith}
use Rattle.std.specs.Prelude.{◌==◌, if◌then◌else◌}
use Rattle.std.proofs.lemmas.List.Elements.{All-head, All-tail, All-nil, All-cons}
use Rattle.ft_text.specs.Lines.{onto_first, lines_of, onto_ended, ended_lines}

-- one more byte in front of the last piece, unless a line stands between
abbrev pub onto_piece : ℕ → List (List ℕ) → List ℕ → List ℕ
onto_piece byte [] piece = byte ∷ piece
onto_piece byte (line ∷ lines) piece = piece

-- the bytes of a text after its last byte 10
abbrev pub last_piece : List ℕ → List ℕ
last_piece [] = []
last_piece (byte ∷ bytes) = if byte == 10 then last_piece bytes else onto_piece byte (ended_lines bytes) (last_piece bytes)

-- a byte is 10, or it is not
module _ (byte : ℕ) {P : Type 0} (is : eqb byte 10 ≡ true → P) (other : eqb byte 10 ≡ false → P) where
  by_end : P
  by_end = at (eqb byte 10) refl
    where
      at : (b : Bool) → eqb byte 10 ≡ b → P
      at true e = is e
      at false e = other e

-- the lines of a text are those that its front ends, and those of what is left of the front and the rest
pub lines_of-split : (read rest : List ℕ) → lines_of (read ++ rest) ≡ ended_lines read ++ lines_of (last_piece read ++ rest)
lines_of-split [] rest = refl
lines_of-split (byte ∷ bytes) rest = by_end byte (λ e. rw e (ap (λ l. [] ∷ l) (lines_of-split bytes rest))) (λ e. rw e (onto e (ended_lines bytes) (last_piece bytes) (lines_of-split bytes rest)))
  where
    onto : eqb byte 10 ≡ false → (ended : List (List ℕ)) (piece : List ℕ) → lines_of (bytes ++ rest) ≡ ended ++ lines_of (piece ++ rest)
        → onto_first byte (lines_of (bytes ++ rest)) ≡ onto_ended byte ended ++ lines_of (onto_piece byte ended piece ++ rest)
    onto e [] piece h = rw e (ap (onto_first byte) h)
    onto e (line ∷ lines) piece h = ap (onto_first byte) h

-- a part without a byte 10 ends no line
ended_lines-plain : (part : List ℕ) → All (λ byte. byte ≢ 10) part → (ended_lines part ≡ []) × (last_piece part ≡ part)
ended_lines-plain [] plain = (refl, refl)
ended_lines-plain (byte ∷ bytes) plain =
    let e = ne_eqb byte 10 (All-head (λ b. b ≢ 10) byte bytes plain) in
    let h = ended_lines-plain bytes (All-tail (λ b. b ≢ 10) byte bytes plain) in
    (rw e (ap (onto_ended byte) h.0), rw e (rw h.0 (ap (λ l. byte ∷ l) h.1)))

-- and is added to the last piece
pub ended_lines-part : (read part : List ℕ) → All (λ byte. byte ≢ 10) part → (ended_lines (read ++ part) ≡ ended_lines read) × (last_piece (read ++ part) ≡ last_piece read ++ part)
ended_lines-part [] part plain = ended_lines-plain part plain
ended_lines-part (byte ∷ bytes) part plain =
    let h = ended_lines-part bytes part plain in (
      by_end byte (λ e. rw e (ap (λ l. [] ∷ l) h.0)) (λ e. rw e (ap (onto_ended byte) h.0)),
      by_end byte (λ e. rw e h.1) (λ e. rw e (rw (h.0, h.1) (onto (ended_lines bytes) (last_piece bytes)))),
    )
  where
    onto : (ended : List (List ℕ)) (piece : List ℕ) → onto_piece byte ended (piece ++ part) ≡ onto_piece byte ended piece ++ part
    onto [] piece = refl
    onto (line ∷ lines) piece = refl

-- a byte 10 ends the last piece
pub ended_lines-end : (read : List ℕ) → (ended_lines (read ++ 10 ∷ []) ≡ ended_lines read ++ last_piece read ∷ []) × (last_piece (read ++ 10 ∷ []) ≡ [])
ended_lines-end [] = (refl, refl)
ended_lines-end (byte ∷ bytes) =
    let h = ended_lines-end bytes in (
      by_end byte (λ e. rw e (ap (λ l. [] ∷ l) h.0)) (λ e. rw e (rw h.0 (onto (ended_lines bytes) (last_piece bytes)))),
      by_end byte (λ e. rw e h.1) (λ e. rw e (rw (h.0, h.1) (none (ended_lines bytes) (last_piece bytes)))),
    )
  where
    onto : (ended : List (List ℕ)) (piece : List ℕ) → onto_ended byte (ended ++ piece ∷ []) ≡ onto_ended byte ended ++ onto_piece byte ended piece ∷ []
    onto [] piece = refl
    onto (line ∷ lines) piece = refl

    none : (ended : List (List ℕ)) (piece : List ℕ) → onto_piece byte (ended ++ piece ∷ []) [] ≡ []
    none [] piece = refl
    none (line ∷ lines) piece = refl

-- a part and a byte 10 after it end the last piece and the part
pub ended_lines-line : (read part : List ℕ) → All (λ byte. byte ≢ 10) part
    → (ended_lines (read ++ (part ++ 10 ∷ [])) ≡ ended_lines read ++ (last_piece read ++ part) ∷ []) × (last_piece (read ++ (part ++ 10 ∷ [])) ≡ [])
ended_lines-line read part plain =
    let h = ended_lines-part read part plain in
    let end = ended_lines-end (read ++ part) in (
      ap ended_lines (sym (append_assoc read part (10 ∷ []))) ∙ end.0 ∙ rw (h.0, h.1) refl,
      ap last_piece (sym (append_assoc read part (10 ∷ []))) ∙ end.1,
    )

-- the last piece has no byte 10
pub last_piece-plain : (read : List ℕ) → All (λ byte. byte ≢ 10) (last_piece read)
last_piece-plain [] = All-nil (λ byte. byte ≢ 10)
last_piece-plain (byte ∷ bytes) = by_end byte (λ e. rw e (last_piece-plain bytes)) (λ e. rw e (onto e (ended_lines bytes) (last_piece bytes) (last_piece-plain bytes)))
  where
    onto : eqb byte 10 ≡ false → (ended : List (List ℕ)) (piece : List ℕ) → All (λ b. b ≢ 10) piece → All (λ b. b ≢ 10) (onto_piece byte ended piece)
    onto e [] piece plain = All-cons (λ b. b ≢ 10) byte piece (λ is. absurd (cc)) plain
    onto e (line ∷ lines) piece plain = plain

-- a text without a byte 10 is one line, unless it is empty
pub lines_of-plain : (byte : ℕ) (bytes : List ℕ) → All (λ b. b ≢ 10) (byte ∷ bytes) → lines_of (byte ∷ bytes) ≡ (byte ∷ bytes) ∷ []
lines_of-plain byte [] plain = rw (ne_eqb byte 10 (All-head (λ b. b ≢ 10) byte [] plain)) refl
lines_of-plain byte (next ∷ bytes) plain =
    rw (ne_eqb byte 10 (All-head (λ b. b ≢ 10) byte (next ∷ bytes) plain))
    (ap (onto_first byte) (lines_of-plain next bytes (All-tail (λ b. b ≢ 10) byte (next ∷ bytes) plain)))

-- a text that isn't empty has a line
pub lines_of-some : (text : List ℕ) → text ≢ [] → 0 < length (lines_of text)
lines_of-some [] some = absurd (some refl)
lines_of-some (byte ∷ bytes) some = by_end byte (λ e. rw e (omega arith)) (λ e. rw e (onto (lines_of bytes)))
  where
    onto : (lines : List (List ℕ)) → 0 < length (onto_first byte lines)
    onto [] = omega arith
    onto (line ∷ lines) = omega arith
