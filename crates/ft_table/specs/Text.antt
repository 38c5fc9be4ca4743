-- The text of a table: the lines above its rows, its rows and its totals (kernel: histogram.rst, the `hist` file; the layout is our own choice).
use Rattle.std.specs.Prelude.{ℕ, ◌+◌, ◌-◌, ◌^◌, ℤ, false, List, [], ◌∷◌, ◌++◌, length, replicate, Option, codes, decimal, min}
use Rattle.std.specs.List.{flat_map}
use Rattle.std.specs.Fmt.{digits}
use Rattle.std.specs.Int.{w64, cast_unsigned}
use Rattle.ft_fields.specs.Fields.{field_text}
use Rattle.ft_hist.specs.declared.item.KeyItem.{KeyItem}
use Rattle.ft_hist.specs.declared.modifier.Mode.{Mode}
use Rattle.ft_hist.specs.declared.modifier.Mode.TheVariants as modes
use Rattle.ft_hist.specs.declared.item.Item.{Item}
use Rattle.ft_hist.specs.declared.item.Item.TheVariants as items
use Rattle.ft_fields.specs.declared.key.Part.{Part}
use Rattle.ft_fields.specs.declared.key.Part.TheVariants.{Num, Log2, Bucket, Text}
use Rattle.ft_hist.specs.declared.label.Var.{Var}
use Rattle.ft_hist.specs.Canonical.{variable_name, canonical}
use Rattle.ft_hist.specs.Hist.{Hist}
use Rattle.ft_table.specs.declared.row.Totals.{Totals}
use Rattle.ft_table.specs.Counted.{Counted}
use Rattle.ft_table.specs.Keyed.{KeyedText}

-- a number in decimal digits, with spaces in front up to 10 bytes
unfoldable pub right_in_10 : ℕ → List ℕ
right_in_10 n = replicate (10 - length (decimal n)) 32 ++ decimal n

-- a text, and spaces after it up to so many bytes
unfoldable pub left_aligned : ℕ → List ℕ → List ℕ
left_aligned width text = text ++ replicate (width - length text) 32

-- a number modulo 2 ^ 64
abbrev pub unsigned : ℤ → ℕ
unsigned z = cast_unsigned w64 z

-- a number in lower case hexadecimal digits, as many as it needs (kernel: histogram.rst, `.hex`)
abbrev pub hexadecimal : ℕ → List ℕ
hexadecimal n = digits 16 false n

-- the last number of a bucket: no number of 64 bits is above 2 ^ 64 - 1 (kernel: histogram.rst, `.buckets`; the last bucket's end is our own choice)
abbrev pub bucket_end : ℕ → ℕ → ℕ
bucket_end size first = min (first + size - 1) (2 ^ 64 - 1)

-- what is printed of a key's part, by its modifier; a part that the modifier doesn't make has no text (kernel: histogram.rst, modifiers; the layout is our own choice)
abbrev pub part_text : Mode → Part → List ℕ
part_text modes.Plain (Num z) = right_in_10 (unsigned z)
part_text modes.Hex (Num z) = hexadecimal (unsigned z)
part_text modes.Log2 (Log2 n) = codes "~ 2^" ++ left_aligned 2 (decimal n)
part_text (modes.Buckets size) (Bucket first) = codes "~ " ++ decimal first ++ codes "-" ++ decimal (bucket_end size first)
part_text modes.Plain (Text bytes) = left_aligned 50 bytes
part_text mode part = []

-- a part after its field's name
abbrev pub named_part : KeyItem → Part → List ℕ
named_part item part = field_text item.field ++ codes ": " ++ part_text item.mode part

-- parts, each after a `, `
abbrev pub more_parts : List KeyItem → List Part → List ℕ
more_parts (item ∷ items) (part ∷ parts) = codes ", " ++ named_part item part ++ more_parts items parts
more_parts items parts = []

-- parts with a `, ` between each two
abbrev pub listed_parts : List KeyItem → List Part → List ℕ
listed_parts (item ∷ items) (part ∷ parts) = named_part item part ++ more_parts items parts
listed_parts items parts = []

-- a key's parts in braces (kernel: histogram.rst, the `hist` file; the layout is our own choice)
abbrev pub key_text : List KeyItem → List Part → List ℕ
key_text items parts = codes "{ " ++ listed_parts items parts ++ codes " }"

-- what a value is called: its field's name, or the variable's own name, without a `$`
abbrev pub title : Option Var → Item → List ℕ
title variable (items.Num field) = field_text field
title variable items.Own = variable_name variable

-- the sums, each after its title (kernel: histogram.rst, the `hist` file; the layout is our own choice)
abbrev pub sums_text : Option Var → List Item → List ℕ → List ℕ
sums_text variable (item ∷ items) (sum ∷ sums) = codes "  " ++ title variable item ++ codes ": " ++ right_in_10 sum ++ sums_text variable items sums
sums_text variable items sums = []

-- a row's text: its key, its hits and its sums (kernel: histogram.rst, the `hist` file; the layout is our own choice)
unfoldable pub row_text : Hist → Counted → List ℕ
row_text hist row = key_text hist.keys row.key ++ codes " hitcount: " ++ right_in_10 row.hitcount ++ sums_text hist.variable hist.values row.sums

-- a row's line: its text and a line break
abbrev pub row_line : Hist → Counted → List ℕ
row_line hist row = row_text hist row ++ codes "\n"

-- a row as its key and its text, which has no line break
abbrev pub keyed_text : Hist → Counted → KeyedText
keyed_text hist row = record { key = row.key; text = row_text hist row }

-- the totals, below an empty line (kernel: histogram.rst, the `hist` file; the layout is our own choice)
unfoldable pub totals_text : Totals → List ℕ
totals_text totals =
    codes "\nTotals:\n    Hits: " ++ decimal totals.hits ++ codes "\n    Entries: " ++ decimal totals.entries
    ++ codes "\n    Dropped: " ++ decimal totals.dropped ++ codes "\n"

-- the rows of a trigger's table, one per line, and the totals (kernel: histogram.rst, the `hist` file)
unfoldable pub rows_text : Hist → List Counted → Totals → List ℕ
rows_text hist rows totals = flat_map (row_line hist) rows ++ totals_text totals

-- the lines above the rows (kernel: histogram.rst, the `hist` file; the layout is our own choice)
unfoldable pub heading : Hist → List ℕ
heading hist = codes "# event histogram\n#\n# trigger info: " ++ canonical hist ++ codes " [active]\n#\n\n"
