-- The lines of a text. All of it is our own choice.
use Rattle.std.specs.Prelude.{ℕ, List, [], ◌∷◌, ◌==◌, if◌then◌else◌}

-- one more byte in front of the first line, or as the first line if there is none
abbrev pub onto_first : ℕ → List (List ℕ) → List (List ℕ)
onto_first byte [] = (byte ∷ []) ∷ []
onto_first byte (line ∷ lines) = (byte ∷ line) ∷ lines

-- the lines of a text, cut at each byte 10; a last piece that isn't empty is a line too
abbrev pub lines_of : List ℕ → List (List ℕ)
lines_of [] = []
lines_of (byte ∷ bytes) = if byte == 10 then [] ∷ lines_of bytes else onto_first byte (lines_of bytes)

-- one more byte in front of the first line, if there is one
abbrev pub onto_ended : ℕ → List (List ℕ) → List (List ℕ)
onto_ended byte [] = []
onto_ended byte (line ∷ lines) = (byte ∷ line) ∷ lines

-- the lines of a text that a byte 10 ends: all except a last piece without one
abbrev pub ended_lines : List ℕ → List (List ℕ)
ended_lines [] = []
ended_lines (byte ∷ bytes) = if byte == 10 then [] ∷ ended_lines bytes else onto_ended byte (ended_lines bytes)
