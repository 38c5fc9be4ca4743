-- The words of filters and triggers: gaps, names, quoted texts, numbers (kernel: events.rst, event filtering).
use Rattle.std.specs.Prelude.{ℕ, ◌+◌, Bool, not, ◌&&◌, ◌||◌, ◌==◌, List, [], ◌∷◌, length, take, drop, slice_index, Option, Some, None, option_map, if◌then◌else◌, codes, ℤ, pos, neg_ℤ}
use Rattle.std.specs.Char.{is_ascii_alphabetic, is_ascii_alphanumeric, is_ascii_digit, is_ascii_hexdigit}
use Rattle.std.specs.List.{prefix_len, list_all, starts_with}
use Rattle.std.specs.Str.Parse.{digits_value}

-- a space or a tab
abbrev pub is_gap : ℕ → Bool
is_gap byte = byte == 32 || byte == 9

-- the text after the spaces and tabs that it begins with (kernel: events.rst, event filtering)
abbrev pub skip : List ℕ → List ℕ
skip text = drop (prefix_len is_gap text) text

-- a byte that a field's name begins with
abbrev pub begins_name : ℕ → Bool
begins_name byte = is_ascii_alphabetic byte || byte == 95

-- a byte of a field's name
abbrev pub is_in_name : ℕ → Bool
is_in_name byte = is_ascii_alphanumeric byte || byte == 95

-- the text cut after its longest run of such bytes
abbrev pub run_at : (ℕ → Bool) → List ℕ → List ℕ × List ℕ
run_at test text = (take (prefix_len test text) text, drop (prefix_len test text) text)

-- the name that the text begins with, and what is after it (kernel: events.rst, event filtering)
unfoldable pub name_at : List ℕ → Option (List ℕ × List ℕ)
name_at text = if begins_name (slice_index text 0) then Some (run_at is_in_name text) else None

-- `"` or `'` (kernel: events.rst, event filtering)
abbrev pub is_quote : ℕ → Bool
is_quote byte = byte == 34 || byte == 39

-- what stands before and after the first such byte
abbrev pub cut_at : ℕ → List ℕ → Option (List ℕ × List ℕ)
cut_at mark text =
    let front = run_at (λ byte. not (byte == mark)) text in
    if length front.1 == 0 then None else Some (front.0, drop 1 front.1)

-- a text in quotes, without them, and what is after the closing one: the first that is like the opening one (our own choice: there are no escapes)
unfoldable pub quoted_at : List ℕ → Option (List ℕ × List ℕ)
quoted_at [] = None
quoted_at (mark ∷ text) = if is_quote mark then cut_at mark text else None

-- decimal digits without a zero in front of others (our own choice: the kernel reads such numbers as octal)
abbrev pub is_decimal : List ℕ → Bool
is_decimal word = not (length word == 0) && list_all is_ascii_digit word && (not (slice_index word 0 == 48) || length word == 1)

-- one or more hexadecimal digits, of either case
abbrev pub is_hexadecimal : List ℕ → Bool
is_hexadecimal word = not (length word == 0) && list_all is_ascii_hexdigit word

-- the number that a word writes: decimal with or without a `-`, or hexadecimal after `0x` (kernel: events.rst, event filtering; the forms are our own choice)
unfoldable pub number_of : List ℕ → Option ℤ
number_of word =
    if is_decimal word then Some (pos (digits_value 10 word))
    else (if starts_with ◌==◌ word (codes "-") && is_decimal (drop 1 word) then Some (neg_ℤ (pos (digits_value 10 (drop 1 word))))
    else (if starts_with ◌==◌ word (codes "0x") && is_hexadecimal (drop 2 word) then Some (pos (digits_value 16 (drop 2 word)))
    else None))

-- how many bytes are read as a number: a `-`, if one stands there, and the longest run of letters, digits and `_`
abbrev pub word_len : List ℕ → ℕ
word_len [] = 0
word_len (byte ∷ text) = if byte == 45 then 1 + prefix_len is_in_name text else prefix_len is_in_name (byte ∷ text)

-- the number that the text begins with, and what is after it
unfoldable pub number_at : List ℕ → Option (ℤ × List ℕ)
number_at text = option_map (λ number. (number, drop (word_len text) text)) (number_of (take (word_len text) text))
