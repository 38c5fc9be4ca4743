-- A text's head, and its end without spaces and tabs.
use Rattle.std.proofs.Common.{◌≡◌, ℕ, suc, ◌+◌, ◌≤◌, Bool, true, sym, List, [], ◌∷◌, ◌++◌, length, drop, reverse, ap, ◌∙◌, arith}
use Rattle.std.specs.Prelude.{position, unwrap_or}
use Rattle.std.specs.List.{position_or_len, prefix_len}
use Rattle.std.proofs.lemmas.Grind.{common_steps}
use Rattle.std.proofs.lemmas.List.{reverse-append}
use Rattle.ft_text.specs.Tokens.{is_gap, skip}

-- the first place that passes is within the list, or its length
pub position_or_len-le : (p : ℕ → Bool) (xs : List ℕ) → position_or_len p xs ≤ length xs
position_or_len-le p [] = omega arith
position_or_len-le p (x ∷ xs) = let rest = position_or_len-le p xs in grind (arith, common_steps)

-- the first place that passes, or the length
pub position-unwrap_or : (p : ℕ → Bool) (xs : List ℕ) → unwrap_or (position p xs) (length xs) ≡ position_or_len p xs
position-unwrap_or p xs = let within = position_or_len-le p xs in grind (arith, common_steps)

-- spaces and tabs in front do not count
pub skip-front : (first : ℕ) (rest : List ℕ) → is_gap first ≡ true → skip (first ∷ rest) ≡ skip rest
skip-front first rest gap =
    let more : 1 + prefix_len is_gap rest ≡ suc (prefix_len is_gap rest) = omega arith in
    rw gap (ap (λ (n : ℕ). drop n (first ∷ rest)) more)

-- nor do they at the end
pub skip-end : (text before : List ℕ) (last : ℕ) → text ≡ before ++ last ∷ [] → is_gap last ≡ true → skip (reverse before) ≡ skip (reverse text)
skip-end text before last is gap = sym (ap (λ (t : List ℕ). skip (reverse t)) is ∙ ap skip (reverse-append before (last ∷ [])) ∙ skip-front last (reverse before) gap)
