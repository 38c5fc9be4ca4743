-- Texts that begin with an older one.
use Rattle.std.specs.Prelude.{◌≡◌, ℕ, List, take, length}

-- the text begins with the front
abbrev pub IsFront : List ℕ → List ℕ → Type 0
IsFront front text = take (length front) text ≡ front
