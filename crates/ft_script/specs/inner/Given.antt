-- What one read gives. All of it is our own choice.
use Rattle.std.specs.Prelude.{◌≡◌, ℕ, List, ◌++◌, Option}
use Rattle.std.specs.Io.KnownBytes.{Consumes}

-- bytes that the reader gives are added
abbrev pub GivesTo : Option (List ℕ) → Option (List ℕ) → List ℕ → List ℕ → Type 0
GivesTo reader rest before after = (given : List ℕ) × Consumes reader rest given × (after ≡ before ++ given)
