-- What is printed of rows that changed. All of it is our own choice.
use Rattle.std.specs.Prelude.{ℕ, Bool, true, false, not, List, [], ◌∷◌, ◌++◌, length, Option, Some, None, Result, Ok, Err, if◌then◌else◌, codes, decimal}
use Rattle.std.specs.List.{filter, flat_map, sum_by}
use Rattle.std.specs.Str.{bytes_eq}
use Rattle.std.specs.FinMap as map
use Rattle.std.specs.FinMap.{FinMap}
use Rattle.ft_fields.specs.declared.key.Part.{Part}
use Rattle.ft_fields.specs.Parts.{key_cmp}
use Rattle.ft_table.specs.Keyed.{KeyedText}
use Rattle.ft_answers.specs.Answers.{row_texts_shown}
use Rattle.ft_answers.specs.Base.{Base}
use Rattle.ft_base.specs.declared.refused.Refused.{Refused}

-- ---- one row

-- the line of a row, if there is one: a sign, the trigger's id and the row's text, after a space each
abbrev pub signed_line : ℕ → ℕ → Option (List ℕ) → List ℕ
signed_line sign id None = []
signed_line sign id (Some text) = sign ∷ 32 ∷ (decimal id ++ 32 ∷ (text ++ 10 ∷ []))

-- whether two rows are the same, or there is neither
abbrev pub is_same_row : Option (List ℕ) → Option (List ℕ) → Bool
is_same_row None None = true
is_same_row None (Some now) = false
is_same_row (Some before) None = false
is_same_row (Some before) (Some now) = bytes_eq before now

-- what is printed of a row by its text before and now: nothing if they are the same, else a `-` line of the one and a `+` line of the other
unfoldable pub change_lines : ℕ → Option (List ℕ) → Option (List ℕ) → List ℕ
change_lines id before now = if is_same_row before now then [] else signed_line 45 id before ++ signed_line 43 id now

-- ---- a table

-- the texts of a table's rows, by key
abbrev pub Texts : Type 0
Texts = FinMap key_cmp (List ℕ)

-- the texts of rows, by key
abbrev pub texts_of : List KeyedText → Texts
texts_of [] = map.empty
texts_of (row ∷ rows) = map.insert (texts_of rows) row.key row.text

-- the rows of an answer, by key; a refusal has none
abbrev pub texts_in : Result (List KeyedText) Refused → Texts
texts_in (Ok rows) = texts_of rows
texts_in (Err refused) = map.empty

-- the rows that the trigger with an id shows, by key; one that isn't attached shows none
abbrev pub texts_at : Base → ℕ → Texts
texts_at base id = texts_in (row_texts_shown base id)

-- the keys of two tables' rows, in order, each once
abbrev pub both_keys : Texts → Texts → List (List Part)
both_keys before now = map.keys (map.from_entries {R = key_cmp} (map.entries before ++ map.entries now))

-- whether a key's row differs between two tables
abbrev pub differs : Texts → Texts → List Part → Bool
differs before now key = not (is_same_row (map.get before key) (map.get now key))

-- the keys of the rows that differ between two tables, in order
abbrev pub changed_keys : Texts → Texts → List (List Part)
changed_keys before now = filter (differs before now) (both_keys before now)

-- what is printed of a key's row
abbrev pub key_lines : ℕ → Texts → Texts → List Part → List ℕ
key_lines id before now key = change_lines id (map.get before key) (map.get now key)

-- what is printed of a trigger's table by its rows before and now: of each row that differs, in order of the key
abbrev pub table_lines : ℕ → Texts → Texts → List ℕ
table_lines id before now = flat_map (key_lines id before now) (changed_keys before now)

-- ---- all tables

-- what is printed of the rows that differ between two bases, of all triggers that are attached in the first, in order of id
unfoldable pub changed_lines : Base → Base → List ℕ
changed_lines old new = flat_map (λ t. table_lines t.0 (texts_at old t.0) (texts_at new t.0)) (map.entries old.triggers)

-- how many these rows are
unfoldable pub changed_count : Base → Base → ℕ
changed_count old new = sum_by (λ t. length (changed_keys (texts_at old t.0) (texts_at new t.0))) (map.entries old.triggers)

-- what is printed of them: their lines, and a last line with how many rows these are
unfoldable pub changes_text : Base → Base → List ℕ
changes_text old new = changed_lines old new ++ (codes "changed " ++ (decimal (changed_count old new) ++ codes "\n"))
