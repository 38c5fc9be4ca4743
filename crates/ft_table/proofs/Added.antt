-- Texts that were added one after another.
use Rattle.std.proofs.Common.{◌≡◌, List, ℕ, ◌++◌, ◌∙◌, append_assoc, if◌then◌else◌}
use Rattle.std.specs.Prelude.{Result, Ok, Err, OnErr}
use Rattle.std.specs.Result.{is_ok}
use Rattle.ft_text.specs.Fronts.{IsFront}
use Rattle.ft_text.proofs.Fronts.{front_of_more}

-- if the last text isn't added, the old one is still in front
pub still_front : {X E : Type 0} (r : Result X E) (old mid new a b : List ℕ) → mid ≡ old ++ a → new ≡ (if is_ok r then mid ++ b else mid) → OnErr r (IsFront old new)
still_front (Ok x) old mid new a b added is = tt
still_front (Err e) old mid new a b added is = front_of_more old new a (is ∙ added)

-- three times two texts were added, and then one
pub added_pairs : (old one two three new a b c d e f g : List ℕ) → one ≡ old ++ (a ++ b) → two ≡ one ++ (c ++ d) → three ≡ two ++ (e ++ f) → new ≡ three ++ g → new ≡ old ++ ((((((a ++ b) ++ c) ++ d) ++ e) ++ f) ++ g)
added_pairs old one two three new a b c d e f g h i j k = rw (k, j, i, h) (simp append_assoc)
