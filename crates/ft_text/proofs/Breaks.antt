-- A text cut at its first line break.
use Rattle.std.proofs.Common.{◌≡◌, ◌≢◌, false, ℕ, zero, suc, ◌<◌, List, [], ◌∷◌, length, take, drop, get_or, refl, ap, ◌∙◌, eqb, arith}
use Rattle.std.proofs.lemmas.Bool.{eqb-true, false_from_ne_true}
use Rattle.std.proofs.lemmas.Grind.{common_steps}
use Rattle.std.proofs.lemmas.List.{get_or_default, get_or-take, length-take}
use Rattle.std.proofs.lemmas.List.Folds.{list_any_none}
use Rattle.std.specs.List.{list_any}
use Rattle.ft_text.specs.Lines.{lines_of, onto_first}

-- a byte that is no break stands in front of the first line
lines_of-on : (byte : ℕ) (bytes : List ℕ) → byte ≢ 10 → lines_of (byte ∷ bytes) ≡ onto_first byte (lines_of bytes)
lines_of-on byte bytes apart = grind (arith, common_steps)

-- the first break ends the first line
pub lines_of-ended : (text : List ℕ) (end : ℕ) → end < length text → ((k : ℕ) → k < end → get_or text k 0 ≢ 10) → get_or text end 0 ≡ 10 → lines_of text ≡ take end text ∷ lines_of (drop (suc end) text)
lines_of-ended [] end below none here = absurd (omega arith)
lines_of-ended (byte ∷ bytes) zero below none here = rw here refl
lines_of-ended (byte ∷ bytes) (suc end) below none here =
    lines_of-on byte bytes (none 0 (omega arith))
    ∙ ap (onto_first byte) (lines_of-ended bytes end (omega arith) (λ k h. none (suc k) (omega arith)) here)

-- without a break the text is its one line
pub lines_of-open : (text : List ℕ) → 0 < length text → ((k : ℕ) → k < length text → get_or text k 0 ≢ 10) → lines_of text ≡ text ∷ []
lines_of-open [] some none = absurd (omega arith)
lines_of-open (byte ∷ []) some none = lines_of-on byte [] (none 0 (omega arith))
lines_of-open (byte ∷ next ∷ text) some none =
    lines_of-on byte (next ∷ text) (none 0 (omega arith))
    ∙ ap (onto_first byte) (lines_of-open (next ∷ text) (omega arith) (λ k h. none (suc k) (omega arith)))

-- a text without a break, as a test of its bytes
pub unbroken_open : (text : List ℕ) → ((k : ℕ) → k < length text → get_or text k 0 ≢ 10) → list_any (λ b. eqb b 10) text ≡ false
unbroken_open text none =
    list_any_none (λ b. eqb b 10) text (λ k d within.
    let same = get_or_default text k d 0 within in
    rw same (false_from_ne_true (eqb (get_or text k 0) 10) (λ hit. none k within (eqb-true _ _ hit))))

-- no break stands in the line that the first break ends
pub unbroken_ended : (text : List ℕ) (end : ℕ) → end < length text → ((k : ℕ) → k < end → get_or text k 0 ≢ 10) → list_any (λ b. eqb b 10) (take end text) ≡ false
unbroken_ended text end below none =
    unbroken_open (take end text) (λ k within.
    let before : k < end = omega (arith, length-take end text, within) in
    rw (get_or-take end text k 0 before) (none k before))
