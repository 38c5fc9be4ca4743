-- A text cut at the first of some byte.
use Rattle.std.proofs.Common.{◌≡◌, ◌≤◌, ℕ, ◌+◌, ◌-◌, false, List, take, drop, length, Some, None, arith, refl, sym, ap, ◌∙◌, eqb, not}
use Rattle.std.proofs.lemmas.Bool.{eq-eqb, ne_eqb}
use Rattle.std.proofs.lemmas.List.{drop-drop, length-drop}
use Rattle.std.specs.Prelude.{◌==◌}
use Rattle.std.specs.List.{prefix_len}
use Rattle.ft_text.specs.Tokens.{cut_at}

-- the byte stands after the front, or nowhere
pub cut_at-some : (mark : ℕ) (text : List ℕ) (n : ℕ) → n ≡ prefix_len (λ byte. not (byte == mark)) text → n ≤ length text → (n ≡ length text → ⊥)
    → cut_at mark text ≡ Some (take n text, drop (n + 1) text)
cut_at-some mark text n is within before =
    let left : length (drop (prefix_len (λ byte. not (byte == mark)) text) text) ≡ length text - n = length-drop _ text ∙ ap (λ k. length text - k) (sym is) in
    let some : eqb (length (drop (prefix_len (λ byte. not (byte == mark)) text) text)) 0 ≡ false = ne_eqb _ 0 (λ e. before (omega (arith, e, left))) in
    rw some (rw (drop-drop 1 (prefix_len (λ byte. not (byte == mark)) text) text, ← is) refl)

pub cut_at-none : (mark : ℕ) (text : List ℕ) (n : ℕ) → n ≡ prefix_len (λ byte. not (byte == mark)) text → n ≡ length text
    → cut_at mark text ≡ None
cut_at-none mark text n is all =
    let left : length (drop (prefix_len (λ byte. not (byte == mark)) text) text) ≡ 0 = length-drop _ text ∙ omega (arith, is, all) in
    rw (eq-eqb _ 0 left) refl
