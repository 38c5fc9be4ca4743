-- Texts that were added one after another.
use Rattle.std.proofs.Common.{◌≡◌, List, ℕ, ◌++◌, ap, ◌∙◌, append_assoc, if◌then◌else◌}
use Rattle.std.specs.Prelude.{Result, Ok, Err, OnOk}
use Rattle.std.specs.Result.{is_ok}

-- what is added if memory doesn't run out is added on Ok
pub added_once : {X E : Type 0} (r : Result X E) (old new a b : List ℕ) → a ≡ b → new ≡ (if is_ok r then old ++ a else old) → OnOk r (new ≡ old ++ b)
added_once (Ok x) old new a b same is = is ∙ ap (λ (t : List ℕ). old ++ t) same
added_once (Err e) old new a b same is = tt

-- two texts were added
pub added_two : (old one new a b : List ℕ) → one ≡ old ++ a → new ≡ one ++ b → new ≡ old ++ (a ++ b)
added_two old one new a b h i = rw (i, h) (simp append_assoc)

-- three texts were added
pub added_three : (old one two new a b c : List ℕ) → one ≡ old ++ a → two ≡ one ++ b → new ≡ two ++ c → new ≡ old ++ ((a ++ b) ++ c)
added_three old one two new a b c h i j = rw (j, i, h) (simp append_assoc)

-- four texts were added
pub added_four : (old one two three new a b c d : List ℕ) → one ≡ old ++ a → two ≡ one ++ b → three ≡ two ++ c → new ≡ three ++ d → new ≡ old ++ (((a ++ b) ++ c) ++ d)
added_four old one two three new a b c d h i j k = rw (k, j, i, h) (simp append_assoc)
