-- What pieces and words are, by the texts that they make (kernel: histogram.rst, hist triggers).
use Rattle.std.specs.Prelude.{◌≡◌, ◌≢◌, ◌+◌, ◌==◌, ℕ, true, false, List, [], ◌∷◌, ◌++◌, length, Option, Some, None, if◌then◌else◌, codes}
use Rattle.std.specs.List.{list_all, list_any}
use Rattle.ft_text.specs.Tokens.{begins_name, is_in_name}
use Rattle.ft_text.specs.Items.{Piece, Word}

-- ---- pieces

-- pieces after others, each after a separator
abbrev pub more_pieces : ℕ → List Piece → List ℕ
more_pieces separator [] = []
more_pieces separator (piece ∷ pieces) = separator ∷ (piece.bytes ++ more_pieces separator pieces)

-- each piece begins one byte after the end of the piece before it, and has no separator
abbrev pub ArePlaced : ℕ → ℕ → List Piece → Type 0
ArePlaced separator place [] = Unit {0}
ArePlaced separator place (piece ∷ pieces) =
    (piece.place ≡ place) × (list_any (λ byte. byte == separator) piece.bytes ≡ false) × ArePlaced separator (place + length piece.bytes + 1) pieces

-- a text that begins at this place is one or more pieces, with a separator between each two (kernel: histogram.rst, hist triggers)
pub record ArePieces (separator place : ℕ) (text : List ℕ) (list : List Piece) : Type 0 where
  pub first : Piece
  pub more : List Piece
  pub list_is : list ≡ first ∷ more
  pub text_is : text ≡ first.bytes ++ more_pieces separator more
  pub placed : ArePlaced separator place (first ∷ more)

-- ---- words

-- a letter or `_`, and then letters, digits and `_` (kernel: events.rst, fields)
pub record IsNamed (name : List ℕ) : Type 0 where
  pub first : ℕ
  pub rest : List ℕ
  pub is : name ≡ first ∷ rest
  pub begins : begins_name first ≡ true
  pub inside : list_all is_in_name rest ≡ true

-- how a suffix stands after a name (kernel: histogram.rst, modifiers)
abbrev pub suffix_bytes : Option (List ℕ) → List ℕ
suffix_bytes None = []
suffix_bytes (Some suffix) = codes "." ++ suffix

-- an item is a `$` or none, a name, and nothing or a `.` and one or more bytes (kernel: histogram.rst, hist triggers)
pub record IsItem (item : List ℕ) (word : Word) : Type 0 where
  pub named : IsNamed word.name
  pub ended : word.suffix ≢ Some []
  pub is : item ≡ (if word.dollar then codes "$" else []) ++ (word.name ++ suffix_bytes word.suffix)
