-- Commands written out, as a script has them: each with one space between its words, and its numbers without zeros in front. All of it is our own choice.
use Rattle.std.specs.Prelude.{◌≡◌, ◌≢◌, ◌≤◌, ℕ, false, List, [], ◌∷◌, ◌++◌, Some, None, unwrap_or, codes, decimal}
use Rattle.ft_fields.specs.Names.{name_text}
use Rattle.ft_script.specs.declared.script.Numbered.{Numbered}
use Rattle.ft_script.specs.declared.script.Numbered.TheVariants as numbers
use Rattle.ft_script.specs.Script.{Asked, Nothing, Load, Insert, Strike, Attach, Refilter, About, NoForm, greatest_number, is_space}

-- ---- what may be written out

-- a number of 32 bits
abbrev pub IsCommandNumber : ℕ → Type 0
IsCommandNumber number = number ≤ greatest_number

-- no space stands at the ends of the text, which may be empty
pub record IsStripped (text : List ℕ) : Type 0 where
  pub opens : (byte : ℕ) (rest : List ℕ) → text ≡ byte ∷ rest → is_space byte ≡ false
  pub closes : (front : List ℕ) (byte : ℕ) → text ≡ front ++ byte ∷ [] → is_space byte ≡ false

-- numbers are of 32 bits, events have names, and triggers and filters have no spaces at their ends; the line of a trace may be any
abbrev pub IsWritable : Asked → Type 0
IsWritable Nothing = Unit {0}
IsWritable (Load number) = IsCommandNumber number
IsWritable (Insert text) = Unit {0}
IsWritable (Strike cpu line) = IsCommandNumber cpu × IsCommandNumber line
IsWritable (Attach event text) = (name_text event ≢ None) × IsStripped text
IsWritable (Refilter id None) = IsCommandNumber id
IsWritable (Refilter id (Some text)) = IsCommandNumber id × IsStripped text
IsWritable (About what number) = IsCommandNumber number
IsWritable NoForm = Unit {0}

-- ---- how it is written

-- a text after a space, or nothing if the text is empty
abbrev pub spaced : List ℕ → List ℕ
spaced [] = []
spaced (byte ∷ text) = 32 ∷ byte ∷ text

-- the word of a command about one number
abbrev pub command_word : Numbered → List ℕ
command_word numbers.Unload = codes "unload"
command_word numbers.Remove = codes "remove"
command_word numbers.Hist = codes "hist"
command_word numbers.Totals = codes "totals"
command_word numbers.Latencies = codes "lat"
command_word numbers.Lane = codes "list"

-- what is asked, written out; `?` is one of the lines that have no form
abbrev pub written : Asked → List ℕ
written Nothing = []
written (Load number) = codes "load @" ++ decimal number
written (Insert text) = codes "insert " ++ text
written (Strike cpu line) = codes "strike " ++ (decimal cpu ++ (codes ":" ++ decimal line))
written (Attach event text) = codes "attach " ++ (unwrap_or (name_text event) [] ++ spaced text)
written (Refilter id None) = codes "filter " ++ (decimal id ++ codes " none")
written (Refilter id (Some text)) = codes "filter " ++ (decimal id ++ (codes " if" ++ spaced text))
written (About what number) = command_word what ++ (codes " " ++ decimal number)
written NoForm = codes "?"
