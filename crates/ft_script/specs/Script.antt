-- What a line of the script asks for. All of it is our own choice.
use Rattle.std.specs.Prelude.{ℕ, Bool, not, ◌&&◌, ◌||◌, List, [], ◌∷◌, length, take, drop, reverse, Option, Some, None, option_map, nat_lt, nat_le, ◌==◌, if◌then◌else◌, codes, slice_index}
use Rattle.std.specs.List.{list_all, find, take_while, before_first, after_first}
use Rattle.std.specs.Option.{option_map_or}
use Rattle.std.specs.Char.{is_ascii_digit}
use Rattle.std.specs.Str.{bytes_eq}
use Rattle.std.specs.Str.Parse.{digits_value}
use Rattle.ft_fields.specs.declared.event.Name.{Name}
use Rattle.ft_fields.specs.Names.{name_called}
use Rattle.ft_script.specs.declared.script.Numbered.{Numbered}
use Rattle.ft_script.specs.declared.script.Numbered.TheVariants as numbers

-- what is asked: nothing, an edit or an answer, or a command of no form
pub data Asked : Type 0 where
  Nothing : Asked
  Load : ℕ → Asked
  Insert : List ℕ → Asked
  Strike : ℕ → ℕ → Asked
  Attach : Name → List ℕ → Asked
  Refilter : ℕ → Option (List ℕ) → Asked
  About : Numbered → ℕ → Asked
  NoForm : Asked

-- the most bytes of a script line: twice those of a trace line, so that the longest one has room after `insert`
abbrev pub line_limit : ℕ
line_limit = 8192

-- the most digits of a number, as many as the greatest has
abbrev pub most_digits : ℕ
most_digits = 10

-- the greatest number, of 32 bits
abbrev pub greatest_number : ℕ
greatest_number = 4294967295

-- a space, byte 32; tabs are no gap
abbrev pub is_space : ℕ → Bool
is_space byte = byte == 32

-- a byte of a word, which a space ends
abbrev pub is_in_word : ℕ → Bool
is_in_word byte = not (byte == 32)

-- the text without the bytes in front that pass
abbrev pub drop_while : (ℕ → Bool) → List ℕ → List ℕ
drop_while test [] = []
drop_while test (byte ∷ bytes) = if test byte then drop_while test bytes else byte ∷ bytes

-- the text without spaces at both ends
unfoldable pub trimmed : List ℕ → List ℕ
trimmed text = reverse (drop_while is_space (reverse (drop_while is_space text)))

-- the first word of a text that begins with no space
unfoldable pub first_word : List ℕ → List ℕ
first_word text = take_while is_in_word text

-- what follows the first word and the spaces after it
unfoldable pub after_word : List ℕ → List ℕ
after_word text = drop_while is_space (drop_while is_in_word text)

-- a number: 1 to 10 digits, at most 4,294,967,295
unfoldable pub command_number : List ℕ → Option ℕ
command_number text =
    if nat_lt 0 (length text) && nat_le (length text) most_digits && list_all is_ascii_digit text && nat_le (digits_value 10 text) greatest_number
    then Some (digits_value 10 text) else None

-- after `load`: `@N`, the Nth trace file
unfoldable pub load_in : List ℕ → Asked
load_in [] = NoForm
load_in (byte ∷ digits) = if byte == 64 then option_map_or Load (command_number digits) NoForm else NoForm

-- after `attach`: an event's name, and the trigger's text, which may be empty
unfoldable pub attach_in : List ℕ → Asked
attach_in text = option_map_or (λ name. Attach name (after_word text)) (name_called (first_word text)) NoForm

-- a colon, byte 58
abbrev pub is_colon : ℕ → Bool
is_colon byte = byte == 58

-- a strike of a CPU's line, if both numbers are there; else no form
abbrev pub strike_of : Option ℕ → Option ℕ → Asked
strike_of cpu None = NoForm
strike_of None (Some line) = NoForm
strike_of (Some cpu) (Some line) = Strike cpu line

-- after `strike`: `C:L`, a CPU's number and a line's number
unfoldable pub strike_in : List ℕ → Asked
strike_in text = strike_of (command_number (before_first is_colon text)) (command_number (after_first is_colon text))

-- after a trigger's id: `if` and a filter's text, which may be empty, or only `none`
unfoldable pub refilter_in : ℕ → List ℕ → Asked
refilter_in id text =
    if bytes_eq text (codes "none") then Refilter id None
    else (if bytes_eq (first_word text) (codes "if") then Refilter id (Some (after_word text)) else NoForm)

-- after `filter`: a trigger's id, and its new filter or none
unfoldable pub filter_in : List ℕ → Asked
filter_in text = option_map_or (λ id. refilter_in id (after_word text)) (command_number (first_word text)) NoForm

-- the words of the commands about one number, each with what it asks
abbrev pub numbered_words : List (List ℕ × Numbered)
numbered_words =
    (codes "unload", numbers.Unload) ∷ (codes "remove", numbers.Remove) ∷ (codes "hist", numbers.Hist) ∷
    (codes "totals", numbers.Totals) ∷ (codes "lat", numbers.Latencies) ∷ (codes "list", numbers.Lane) ∷ []

-- what is asked about a number, by its word
abbrev pub numbered_by : List ℕ → Option Numbered
numbered_by word = option_map (λ form. form.1) (find (λ form. bytes_eq word form.0) numbered_words)

-- a command about one number, if its word names one and the number is valid
abbrev pub about : Option Numbered → Option ℕ → Asked
about what None = NoForm
about None (Some number) = NoForm
about (Some what) (Some number) = About what number

-- the words of the other commands, each with the rule that reads what is after it
abbrev pub worded_forms : List (List ℕ × (List ℕ → Asked))
worded_forms = (codes "load", load_in) ∷ (codes "strike", strike_in) ∷ (codes "attach", attach_in) ∷ (codes "filter", filter_in) ∷ []

-- a command by its first word
unfoldable pub command_by_word : List ℕ → Asked
command_by_word text =
    option_map_or (λ form. form.1 (after_word text)) (find (λ form. bytes_eq (first_word text) form.0) worded_forms)
    (about (numbered_by (first_word text)) (command_number (after_word text)))

-- what stands after one space, or an end
abbrev pub behind_space : List ℕ → Option (List ℕ)
behind_space [] = Some []
behind_space (byte ∷ bytes) = if byte == 32 then Some bytes else None

-- the line of a trace after `insert` and one space, byte for byte, if the line begins with these; a line that is only `insert` has the empty one
unfoldable pub insert_text : List ℕ → Option (List ℕ)
insert_text line = if bytes_eq (take 6 line) (codes "insert") then behind_space (drop 6 line) else None

-- what a line asks for: nothing if it is empty, has only spaces, or begins with `#`; a line over the limit has no form
unfoldable pub asked_by : List ℕ → Asked
asked_by line =
    if nat_lt line_limit (length line) then NoForm
    else (if list_all is_space line || slice_index line 0 == 35 then Nothing
    else option_map_or Insert (insert_text line) (command_by_word (trimmed line)))
