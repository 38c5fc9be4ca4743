-- The words of a trigger's text: pieces between separators, items, numbers (kernel: histogram.rst, hist triggers).
use Rattle.std.specs.Prelude.{ℕ, ◌+◌, Bool, true, false, not, ◌&&◌, ◌==◌, nat_le, List, [], ◌∷◌, length, drop, Option, Some, None, option_map, if◌then◌else◌, codes}
use Rattle.std.specs.Char.{is_ascii_digit}
use Rattle.std.specs.List.{list_all, starts_with}
use Rattle.std.specs.Option.{option_and_then, option_map_or}
use Rattle.std.specs.Str.{bytes_eq}
use Rattle.std.specs.Str.Parse.{digits_value}
use Rattle.ft_text.specs.Tokens.{name_at}

-- ---- pieces

-- a piece of a text, and the byte of the text that it begins at
pub record Piece : Type 0 where
  pub place : ℕ
  pub bytes : List ℕ

-- the first piece with one more byte in front
abbrev pub onto_first_piece : ℕ → ℕ → List Piece → List Piece
onto_first_piece place byte [] = []
onto_first_piece place byte (piece ∷ pieces) = record { place = place; bytes = byte ∷ piece.bytes } ∷ pieces

-- the pieces between separators, of a text that begins at this place: at least one, which may be empty (kernel: histogram.rst, hist triggers)
abbrev pub pieces : ℕ → ℕ → List ℕ → List Piece
pieces separator place [] = record { place = place; bytes = [] } ∷ []
pieces separator place (byte ∷ text) =
    if byte == separator then record { place = place; bytes = [] } ∷ pieces separator (place + 1) text
    else onto_first_piece place byte (pieces separator (place + 1) text)

-- ---- items

-- an item as it stands: a `$` or none, a name, and what is after a `.`, if that stands (kernel: histogram.rst, hist triggers)
pub record Word : Type 0 where
  pub dollar : Bool
  pub name : List ℕ
  pub suffix : Option (List ℕ)

-- what is after a name: nothing, or a `.` and one or more bytes
abbrev pub suffix_of : List ℕ → Option (Option (List ℕ))
suffix_of [] = Some None
suffix_of (dot ∷ []) = None
suffix_of (dot ∷ byte ∷ rest) = if dot == 46 then Some (Some (byte ∷ rest)) else None

-- a name and what is after it, as a word
abbrev pub word_from : Bool → List ℕ × List ℕ → Option Word
word_from dollar cut = option_map (λ suffix. record { dollar = dollar; name = cut.0; suffix = suffix }) (suffix_of cut.1)

-- the word of a text after its `$`, or without one; names are spelled like fields
unfoldable pub word_with : Bool → List ℕ → Option Word
word_with dollar text = option_and_then (word_from dollar) (name_at text)

-- the word of an item, if it has the form (kernel: histogram.rst, hist triggers)
unfoldable pub word_of : List ℕ → Option Word
word_of item = if starts_with ◌==◌ item (codes "$") then word_with true (drop 1 item) else word_with false item

-- the word is this name, without a `$`
abbrev pub is_word : Word → List ℕ → Bool
is_word word name = not word.dollar && bytes_eq word.name name

-- two words have the same name, both with a `$` or both without one
abbrev pub same_word : Word → Word → Bool
same_word a b = bytes_eq a.name b.name && (if a.dollar then b.dollar else not b.dollar)

-- the text is a name and nothing else
abbrev pub is_name : List ℕ → Bool
is_name text = option_map_or (λ cut. length cut.1 == 0) (name_at text) false

-- ---- numbers

-- decimal digits, at least one
abbrev pub is_number : List ℕ → Bool
is_number text = not (length text == 0) && list_all is_ascii_digit text

-- the number that decimal digits write, if it is from the least to the greatest
unfoldable pub number_in : ℕ → ℕ → List ℕ → Option ℕ
number_in least most text =
    if is_number text && (nat_le least (digits_value 10 text) && nat_le (digits_value 10 text) most) then Some (digits_value 10 text) else None
