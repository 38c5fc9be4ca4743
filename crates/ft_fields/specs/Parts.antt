-- The parts of keys, and their order (kernel: histogram.rst, `keys`).
use Rattle.std.specs.Prelude.{◌≡◌, Bool, ℕ, zero, suc, ℤ, pos, List, [], refl}
use Rattle.std.specs.declared.cmp.Ordering.{Ordering}
use Rattle.std.specs.Ordering.{nat_cmp, int_cmp, on, then_cmp, eq_by_cmp}
use Rattle.std.specs.Cmp.Lexicographic.{slice_cmp}
use Rattle.ft_fields.specs.declared.key.Part.{Part}
use Rattle.ft_fields.specs.declared.key.Part.TheVariants.{Num, Log2, Bucket, Text}

-- the number of a part's kind: numbers, powers, multiples, texts
abbrev pub part_kind : Part → ℕ
part_kind (Num z) = 0
part_kind (Log2 n) = 1
part_kind (Bucket n) = 2
part_kind (Text bytes) = 3

-- the number in a part; a text has none, and is given 0
abbrev pub part_number : Part → ℤ
part_number (Num z) = z
part_number (Log2 n) = pos n
part_number (Bucket n) = pos n
part_number (Text bytes) = pos 0

-- the bytes of a text; other parts have none
abbrev pub bytes_of : Part → List ℕ
bytes_of (Num z) = []
bytes_of (Log2 n) = []
bytes_of (Bucket n) = []
bytes_of (Text bytes) = bytes

-- the part of this kind with this number or these bytes
abbrev pub part_with : ℕ → ℤ → List ℕ → Part
part_with (suc zero) (pos n) bytes = Log2 n
part_with (suc (suc zero)) (pos n) bytes = Bucket n
part_with (suc (suc (suc kind))) z bytes = Text bytes
part_with kind z bytes = Num z

-- a part is the one with its kind, number and bytes
pub part_with-of : (part : Part) → part_with (part_kind part) (part_number part) (bytes_of part) ≡ part
part_with-of (Num z) = refl
part_with-of (Log2 n) = refl
part_with-of (Bucket n) = refl
part_with-of (Text bytes) = refl

-- parts in order: by kind, then numbers as signed ones, then texts by their bytes
abbrev pub part_cmp : Part → Part → Ordering
part_cmp = then_cmp (on part_kind nat_cmp) (then_cmp (on part_number int_cmp) (on bytes_of (slice_cmp nat_cmp)))

-- keys in order: by their parts from the left, a beginning before what it begins
abbrev pub key_cmp : List Part → List Part → Ordering
key_cmp = slice_cmp part_cmp

-- whether two keys are the same
abbrev pub same_key : List Part → List Part → Bool
same_key = eq_by_cmp key_cmp
