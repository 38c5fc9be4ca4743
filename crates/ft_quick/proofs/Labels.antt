-- Labels that are found, and texts that are the same.
use Rattle.std.proofs.Common.{◌≡◌, ◌<◌, ◌≤◌, ℕ, zero, suc, ◌+◌, ◌-◌, arith, length, List, ◌++◌, refl, sym, ap, ap₂, ◌∙◌, take, drop}
use Rattle.std.proofs.lemmas.List.{take-append-drop, drop-drop, length-take}

-- a text that is cut where its last label begins
pub last_cut : (text label front rest : List ℕ) (n : ℕ) → front ≡ take n text → rest ≡ drop n text → rest ≡ label → text ≡ front ++ label
last_cut text label front rest n f r same = sym (take-append-drop n text) ∙ ap₂ (λ (x y : List ℕ). x ++ y) (sym f) (sym r ∙ same)

-- at most 31 bytes of a text have at most 31 bytes
pub taken_short : (n : ℕ) (text : List ℕ) → n ≤ 31 → length (take n text) ≤ 31
taken_short n text few = let whole = length-take n text in omega arith

-- and not empty
pub taken_some : (n : ℕ) (text : List ℕ) → (n ≡ 0 → ⊥) → n ≤ length text → 0 < length (take n text)
taken_some zero text other within = absurd (other refl)
taken_some (suc n) text other within = let whole = length-take (suc n) text in omega arith

-- texts of one length with the same beginnings and the same ends, which meet, are one
pub ends_same : (a b a_first b_first a_last b_last : List ℕ) (n len : ℕ) → length a ≡ len → length b ≡ len → a_first ≡ take n a → b_first ≡ take n b → a_first ≡ b_first
    → a_last ≡ drop (length a - n) a → b_last ≡ drop (length b - n) b → a_last ≡ b_last → len ≤ n + n → a ≡ b
ends_same a b a_first b_first a_last b_last n len long_a long_b first_a first_b first last_a last_b last meet =
    let k : ℕ = len - n in
    let ends : drop k a ≡ drop k b = ap (λ (m : ℕ). drop (m - n) a) (sym long_a) ∙ sym last_a ∙ last ∙ last_b ∙ ap (λ (m : ℕ). drop (m - n) b) long_b in
    let place : k + (n - k) ≡ n = omega arith in
    let rests : drop n a ≡ drop n b = ap (λ (m : ℕ). drop m a) (sym place) ∙ sym (drop-drop (n - k) k a) ∙ ap (drop (n - k)) ends ∙ drop-drop (n - k) k b ∙ ap (λ (m : ℕ). drop m b) place in
    sym (take-append-drop n a) ∙ ap₂ (λ (x y : List ℕ). x ++ y) (sym first_a ∙ first ∙ first_b) rests ∙ take-append-drop n b
