-- Globs as truth values: what `IsGlob` and `Glob` say, worked out from the left.
use Rattle.std.specs.Prelude.{ℕ, zero, suc, Bool, true, false, not, ◌&&◌, ◌||◌, ◌==◌, nat_le, List, [], ◌∷◌, length, drop, slice_index, Option, Some, None, option_map, if◌then◌else◌}
use Rattle.std.specs.List.{list_any}
use Rattle.std.specs.Option.{is_some, option_and_then, option_map_or}
use Rattle.ft_text.specs.Glob.{Member, Item, GlobIs, Glob}

-- ---- reading

-- a text as things, at most n of them, each read off its front
abbrev pub all_at : {A : Type 0} → (List ℕ → Option (A × List ℕ)) → ℕ → List ℕ → Option (List A)
all_at one n [] = Some []
all_at one zero (byte ∷ text) = None
all_at one (suc n) (byte ∷ text) = option_and_then (λ found. option_map (λ others. found.0 ∷ others) (all_at one n found.1)) (one (byte ∷ text))

-- `-` and a byte stand after a member's first byte
abbrev pub goes_on : List ℕ → Bool
goes_on (dash ∷ high ∷ rest) = dash == 45
goes_on rest = false

-- a range, not from a higher byte to a lower one, and what is after it (kernel: events.rst, event filtering)
abbrev pub range_at : ℕ → List ℕ → Option (Member × List ℕ)
range_at low rest = if nat_le low (slice_index rest 1) then Some (Member.Range low (slice_index rest 1), drop 2 rest) else None

-- the first member of a class, and what is after it: a range if `-` and a byte follow the first byte, else a single byte
abbrev pub member_at : List ℕ → Option (Member × List ℕ)
member_at [] = None
member_at (low ∷ rest) = if goes_on rest then range_at low rest else Some (Member.Single low, rest)

-- the members that the inside of a class reads as
abbrev pub members_of : List ℕ → Option (List Member)
members_of inside = all_at member_at (length inside) inside

-- what stands before the first `]`, and what is after it
abbrev pub close_at : List ℕ → Option (List ℕ × List ℕ)
close_at [] = None
close_at (byte ∷ text) = if byte == 93 then Some ([], text) else option_map (λ cut. (byte ∷ cut.0, cut.1)) (close_at text)

-- the class, negated or not, whose inside is cut off so, and what is after it; there is no class without members
abbrev pub class_with : Bool → List ℕ × List ℕ → Option (Item × List ℕ)
class_with negated cut = if nat_le 1 (length cut.0) then option_map (λ members. (Item.Class negated members, cut.1)) (members_of cut.0) else None

-- the class whose members begin the text, and what is after it
abbrev pub closed_at : Bool → List ℕ → Option (Item × List ℕ)
closed_at negated text = option_and_then (class_with negated) (close_at text)

-- the class that stands after a `[`, and what is after it (kernel: events.rst, event filtering)
abbrev pub class_at : List ℕ → Option (Item × List ℕ)
class_at text = if slice_index text 0 == 33 then closed_at true (drop 1 text) else closed_at false text

-- the first item of a pattern, and what is after it (kernel: events.rst, event filtering)
abbrev pub item_at : List ℕ → Option (Item × List ℕ)
item_at [] = None
item_at (first ∷ rest) =
    if first == 42 then Some (Item.Any, rest)
    else (if first == 63 then Some (Item.One, rest)
    else (if first == 91 then class_at rest
    else Some (Item.Byte first, rest)))

-- the items that a pattern reads as
unfoldable pub glob_items : List ℕ → Option (List Item)
glob_items pattern = all_at item_at (length pattern) pattern

-- whether the pattern is a glob: it does not begin with `!`, holds no backslash, and reads as items
unfoldable pub is_glob : List ℕ → Bool
is_glob pattern = not (slice_index pattern 0 == 33) && (not (list_any (◌==◌ 92) pattern) && is_some (glob_items pattern))

-- ---- matching

-- the member has the byte (kernel: events.rst, event filtering)
abbrev pub has : ℕ → Member → Bool
has byte (Member.Range low high) = nat_le low byte && nat_le byte high
has byte (Member.Single own) = byte == own

-- the class has the byte: some member does, or, if the class is negated, none does (kernel: events.rst, event filtering)
abbrev pub class_has : Bool → List Member → ℕ → Bool
class_has false members byte = list_any (has byte) members
class_has true members byte = not (list_any (has byte) members)

-- the text is one byte that passes a test, and a rest that passes another
abbrev pub one_then : (ℕ → Bool) → (List ℕ → Bool) → List ℕ → Bool
one_then p q [] = false
one_then p q (byte ∷ rest) = p byte && q rest

-- some end of the text passes the test
abbrev pub some_end : (List ℕ → Bool) → List ℕ → Bool
some_end q [] = q []
some_end q (byte ∷ rest) = q (byte ∷ rest) || some_end q rest

-- whether the items match the whole text (kernel: events.rst, event filtering)
unfoldable pub fits : List Item → List ℕ → Bool
fits [] text = length text == 0
fits (Item.Any ∷ items) text = some_end (fits items) text
fits (Item.One ∷ items) text = one_then (λ byte. true) (fits items) text
fits (Item.Class negated members ∷ items) text = one_then (class_has negated members) (fits items) text
fits (Item.Byte own ∷ items) text = one_then (λ byte. byte == own) (fits items) text

-- whether the pattern is a glob that matches the whole text (kernel: events.rst, event filtering)
unfoldable pub matches : List ℕ → List ℕ → Bool
matches pattern text = is_glob pattern && option_map_or (λ items. fits items text) (glob_items pattern) false

-- the pattern is a glob, and matches the whole text (kernel: events.rst, event filtering)
abbrev pub Matches : List ℕ → List ℕ → Type 0
Matches pattern text = (items : List Item) × GlobIs pattern items × Glob items text
