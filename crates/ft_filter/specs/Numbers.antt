-- Numbers as a filter's text writes them (kernel: events.rst, event filtering; the forms are our own choice).
use Rattle.std.specs.Prelude.{◌≡◌, ◌≢◌, ◌⊎◌, ◌<◌, ◌≤◌, ℕ, IsTrue, List, ◌∷◌, ◌++◌, length, slice_index, codes, ℤ, pos, neg_ℤ}
use Rattle.std.specs.Char.{is_ascii_digit, is_ascii_hexdigit}
use Rattle.std.specs.List.{list_all}
use Rattle.std.specs.Str.Parse.{digits_value}
use Rattle.ft_text.specs.Cuts.{Stops}
use Rattle.ft_text.specs.Tokens.{is_in_name}

-- decimal digits: `0` alone, or a digit from 1 to 9 and then any digits (our own choice: the kernel reads a zero in front as octal)
abbrev pub IsDecimal : List ℕ → Type 0
IsDecimal digits = (digits ≡ codes "0") ⊎ ((first : ℕ) × (others : List ℕ) × (digits ≡ first ∷ others) × (49 ≤ first) × (first ≤ 57) × IsTrue (list_all is_ascii_digit others))

-- one or more hexadecimal digits, of either case
abbrev pub IsHexadecimal : List ℕ → Type 0
IsHexadecimal digits = (0 < length digits) × IsTrue (list_all is_ascii_hexdigit digits)

-- the word writes the number, in one of three forms (kernel: events.rst, event filtering; the forms are our own choice)
pub data Writes : List ℕ → ℤ → Type 0 where
  -- decimal digits
  plain : (digits : List ℕ) → IsDecimal digits → Writes digits (pos (digits_value 10 digits))
  -- `-` and decimal digits
  negative : (digits : List ℕ) → IsDecimal digits → Writes (codes "-" ++ digits) (neg_ℤ (pos (digits_value 10 digits)))
  -- `0x` and hexadecimal digits
  hexadecimal : (digits : List ℕ) → IsHexadecimal digits → Writes (codes "0x" ++ digits) (pos (digits_value 16 digits))

-- the text is a word, which is a `-` that stands there and the longest run of letters, digits and `_`, and the rest
pub record IsWord (text word rest : List ℕ) : Type 0 where
  pub run : List ℕ
  pub joined : text ≡ word ++ rest
  pub parts : ((slice_index text 0 ≢ 45) × (word ≡ run)) ⊎ (word ≡ codes "-" ++ run)
  pub letters : IsTrue (list_all is_in_name run)
  pub longest : Stops is_in_name rest

-- the text is a word that writes the number, and the rest
abbrev pub IsNumber : List ℕ → ℤ → List ℕ → Type 0
IsNumber text z rest = (word : List ℕ) × IsWord text word rest × Writes word z
