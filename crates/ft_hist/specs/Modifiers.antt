-- Modifiers of keys: how they are written, which fields they suit, and what they make of values (kernel: histogram.rst, modifiers).
use Rattle.std.specs.Prelude.{◌≤◌, ℕ, ℤ, Bool, true, false, not, ◌&&◌, ◌==◌, nat_le, List, [], ◌∷◌, ◌++◌, Option, Some, None, codes, decimal}
use Rattle.std.specs.Int.{w64, cast_unsigned}
use Rattle.std.specs.Option.{option_map_or}
use Rattle.std.specs.Str.{bytes_eq}
use Rattle.ft_fields.specs.declared.field.Value.{Value}
use Rattle.ft_fields.specs.declared.field.Value.TheVariants as values
use Rattle.ft_hist.specs.declared.modifier.Mode.{Mode}
use Rattle.ft_hist.specs.declared.modifier.Mode.TheVariants as modes
use Rattle.ft_hist.specs.Powers.{log2_of, bucket_of, IsMultiple}
use Rattle.ft_fields.specs.declared.key.Part.{Part}
use Rattle.ft_fields.specs.declared.key.Part.TheVariants as parts

-- ---- how they are written

-- the name of a modifier, after the `.` of its field; that of buckets stands before their size (kernel: histogram.rst, modifiers)
abbrev pub mode_name : Mode → List ℕ
mode_name modes.Plain = []
mode_name modes.Hex = codes "hex"
mode_name modes.Log2 = codes "log2"
mode_name (modes.Buckets size) = codes "buckets="

-- the modifiers that are a name and nothing else (kernel: histogram.rst, modifiers)
abbrev pub named_modes : List Mode
named_modes = modes.Hex ∷ modes.Log2 ∷ []

-- whether the text is the modifier's name
abbrev pub mode_is_called : List ℕ → Mode → Bool
mode_is_called text mode = bytes_eq (mode_name mode) text

-- what stands after the `.` of a field: nothing if there is no `.` (kernel: histogram.rst, modifiers)
abbrev pub mode_suffix : Mode → Option (List ℕ)
mode_suffix modes.Plain = None
mode_suffix (modes.Buckets size) = Some (mode_name (modes.Buckets size) ++ decimal size)
mode_suffix mode = Some (mode_name mode)

-- a modifier, as it stands after its field (kernel: histogram.rst, modifiers)
abbrev pub mode_text : Mode → List ℕ
mode_text mode = option_map_or (λ suffix. codes "." ++ suffix) (mode_suffix mode) []

-- ---- which fields they suit

-- the modifier may stand after a field of texts, or after one of numbers; buckets have a size (kernel: histogram.rst, modifiers)
abbrev pub mode_suits : Bool → Mode → Bool
mode_suits text modes.Plain = true
mode_suits text modes.Hex = not text
mode_suits text modes.Log2 = not text
mode_suits text (modes.Buckets size) = not text && nat_le 1 size

-- ---- what they make of values

-- what a modifier makes of a number; powers and multiples are of the number modulo 2 ^ 64 (kernel: histogram.rst, `keys` and their modifiers; modulo 2 ^ 64 is our own choice)
abbrev pub number_part : Mode → ℤ → Part
number_part modes.Plain z = parts.Num z
number_part modes.Hex z = parts.Num z
number_part modes.Log2 z = parts.Log2 (log2_of (cast_unsigned w64 z))
number_part (modes.Buckets size) z = parts.Bucket (bucket_of size (cast_unsigned w64 z))

-- what a modifier makes of a text: a part if it is no modifier at all, else nothing (our own choice: modifiers are for numbers)
abbrev pub text_part : Mode → List ℕ → Option Part
text_part modes.Plain text = Some (parts.Text text)
text_part mode text = None

-- what a modifier makes of a field's value (kernel: histogram.rst, `keys` and their modifiers)
abbrev pub value_part : Mode → Value → Option Part
value_part mode (values.Num z) = Some (number_part mode z)
value_part mode (values.Text text) = text_part mode text

-- ---- of which kind that is

-- what a key item makes: numbers, powers, multiples of a size, or texts
pub data Kind : Type 0 where
  Numbers : Kind
  Powers : Kind
  Multiples : ℕ → Kind
  Texts : Kind

-- what a modifier makes of numbers (kernel: histogram.rst, `keys` and their modifiers)
abbrev pub number_kind : Mode → Kind
number_kind modes.Plain = Numbers
number_kind modes.Hex = Numbers
number_kind modes.Log2 = Powers
number_kind (modes.Buckets size) = Multiples size

-- two kinds are the same; two kinds of multiples are the same exactly if their sizes are equal
abbrev pub same_kind : Kind → Kind → Bool
same_kind Numbers Numbers = true
same_kind Powers Powers = true
same_kind (Multiples a) (Multiples b) = a == b
same_kind Texts Texts = true
same_kind a b = false

-- the part is of the kind: a number, a power of at most 64, a multiple of the size, or a text (kernel: histogram.rst, `keys` and their modifiers)
abbrev pub IsOfKind : Kind → Part → Type 0
IsOfKind Numbers (parts.Num z) = Unit {0}
IsOfKind Powers (parts.Log2 n) = n ≤ 64
IsOfKind (Multiples size) (parts.Bucket b) = IsMultiple size b
IsOfKind Texts (parts.Text bytes) = Unit {0}
IsOfKind kind part = ⊥
