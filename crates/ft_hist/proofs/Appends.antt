-- Texts that were added one after another.
use Rattle.std.proofs.Common.{◌≡◌, List, ℕ, ◌++◌, append_assoc}

-- two texts were added, then four at once, then two
pub added_eight : (old one two three four new a b c d e f g h : List ℕ) → one ≡ old ++ a → two ≡ one ++ b → three ≡ two ++ (((c ++ d) ++ e) ++ f) → four ≡ three ++ g → new ≡ four ++ h → new ≡ old ++ (((((((a ++ b) ++ c) ++ d) ++ e) ++ f) ++ g) ++ h)
added_eight old one two three four new a b c d e f g h i j k l m = rw (m, l, k, j, i) (simp append_assoc)
