-- Texts that were added one after another.
use Rattle.std.proofs.Common.{◌≡◌, ℕ, List, ◌++◌, append_assoc}
use Rattle.std.specs.Fmt.{signed_decimal}
use Rattle.std.proofs.lemmas.Int.{to_z-of_z}
use lib.IntN.{ℤ}
use mir.Val.{SFits, of_z, to_z}
use mir.Syntax.{w32}

-- a text was added after others
pub more : (old mid new front text : List ℕ) → mid ≡ old ++ front → new ≡ mid ++ text → new ≡ old ++ (front ++ text)
more old mid new front text h i = rw (i, h) (simp append_assoc)

-- a label and its value were added after others
pub more_labelled : (old mid new front label value : List ℕ) → mid ≡ old ++ front → new ≡ mid ++ (label ++ value) → new ≡ old ++ ((front ++ label) ++ value)
more_labelled old mid new front label value h i = rw (i, h) (simp append_assoc)

-- a label and a signed number were added after others
pub more_signed : (old mid new front label : List ℕ) (z : ℤ) → SFits w32 z → mid ≡ old ++ front → new ≡ mid ++ (label ++ signed_decimal (to_z w32 (of_z w32 z))) → new ≡ old ++ ((front ++ label) ++ signed_decimal z)
more_signed old mid new front label z fits h i = more_labelled old mid new front label (signed_decimal z) h (rw (to_z-of_z w32 z fits) at i)
