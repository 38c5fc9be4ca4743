-- Globs: the items that a pattern reads as, and the texts that they match (kernel: events.rst, event filtering).
use Rattle.std.specs.Prelude.{◌≡◌, ◌≢◌, ◌⊎◌, ◌<◌, ◌≤◌, ℕ, Bool, true, false, List, [], ◌∷◌, ◌++◌, length, slice_index, Contains, codes}

-- a member of a class: a range, inclusive, or a single byte (kernel: events.rst, event filtering)
pub data Member : Type 0 where
  Range : ℕ → ℕ → Member
  Single : ℕ → Member

-- an item of a pattern: `*`, `?`, a class, negated or not, with its members, or a byte that stands for itself (kernel: events.rst, event filtering)
pub data Item : Type 0 where
  Any : Item
  One : Item
  Class : Bool → List Member → Item
  Byte : ℕ → Item

-- ---- reading

-- `-` and a byte stand after a member's first byte
abbrev pub DashFollows : List ℕ → Type 0
DashFollows (dash ∷ high ∷ rest) = dash ≡ 45
DashFollows rest = ⊥

-- the text is a member and the rest: if `-` and a byte follow the first byte, a range, not from a higher byte to a lower one; else a single byte
abbrev pub MemberIs : List ℕ → Member → List ℕ → Type 0
MemberIs text (Member.Range low high) rest = (text ≡ low ∷ 45 ∷ high ∷ rest) × (low ≤ high)
MemberIs text (Member.Single byte) rest = (text ≡ byte ∷ rest) × (DashFollows rest → ⊥)

-- the text is these members, read from the left
abbrev pub MembersAre : List ℕ → List Member → Type 0
MembersAre text [] = text ≡ []
MembersAre text (member ∷ members) = (rest : List ℕ) × MemberIs text member rest × MembersAre rest members

-- the `!` of a negated class (kernel: events.rst, event filtering)
abbrev pub mark : Bool → List ℕ
mark true = codes "!"
mark false = []

-- after a `[` stand an optional `!`, which is read first, what is inside, the first `]`, and the rest
pub record IsBracketed (text : List ℕ) (negated : Bool) (inside rest : List ℕ) : Type 0 where
  pub joined : text ≡ mark negated ++ (inside ++ (codes "]" ++ rest))
  pub closed : Contains inside 93 → ⊥
  pub unmarked : negated ≡ false → slice_index inside 0 ≢ 33

-- the text after a `[` is a class with these members, at least one, and the rest (our own choice: there is no class without members)
pub record ClassIs (text : List ℕ) (negated : Bool) (members : List Member) (rest : List ℕ) : Type 0 where
  pub inside : List ℕ
  pub cut : IsBracketed text negated inside rest
  pub some : 0 < length inside
  pub read : MembersAre inside members

-- a byte that begins no other item (our own choice: a `]` is one)
abbrev pub IsLiteral : ℕ → Type 0
IsLiteral byte = (byte ≢ 42) × (byte ≢ 63) × (byte ≢ 91)

-- the text is an item and the rest (kernel: events.rst, event filtering)
abbrev pub ItemIs : List ℕ → Item → List ℕ → Type 0
ItemIs text Item.Any rest = text ≡ codes "*" ++ rest
ItemIs text Item.One rest = text ≡ codes "?" ++ rest
ItemIs text (Item.Class negated members) rest = (behind : List ℕ) × (text ≡ codes "[" ++ behind) × ClassIs behind negated members rest
ItemIs text (Item.Byte byte) rest = (text ≡ byte ∷ rest) × IsLiteral byte

-- the text is these items, read from the left
abbrev pub ItemsAre : List ℕ → List Item → Type 0
ItemsAre text [] = text ≡ []
ItemsAre text (item ∷ items) = (rest : List ℕ) × ItemIs text item rest × ItemsAre rest items

-- the pattern is a glob of these items: it does not begin with `!`, and holds no backslash (our own choice: the kernel reads both otherwise)
pub record GlobIs (pattern : List ℕ) (items : List Item) : Type 0 where
  pub unmarked : slice_index pattern 0 ≢ 33
  pub unescaped : Contains pattern 92 → ⊥
  pub read : ItemsAre pattern items

-- the pattern is a glob
abbrev pub IsGlob : List ℕ → Type 0
IsGlob pattern = (items : List Item) × GlobIs pattern items

-- ---- matching

-- the member has the byte (kernel: events.rst, event filtering)
abbrev pub Has : Member → ℕ → Type 0
Has (Member.Range low high) byte = (low ≤ byte) × (byte ≤ high)
Has (Member.Single own) byte = byte ≡ own

-- some member has the byte (kernel: events.rst, event filtering)
abbrev pub SomeHas : List Member → ℕ → Type 0
SomeHas [] byte = ⊥
SomeHas (member ∷ members) byte = Has member byte ⊎ SomeHas members byte

-- the class has the byte: some member does, or, if the class is negated, none does (kernel: events.rst, event filtering)
abbrev pub ClassHas : Bool → List Member → ℕ → Type 0
ClassHas false members byte = SomeHas members byte
ClassHas true members byte = SomeHas members byte → ⊥

-- the text is one byte, which P holds for, and a rest, which Q holds for
abbrev pub OneThen : (ℕ → Type 0) → (List ℕ → Type 0) → List ℕ → Type 0
OneThen P Q [] = ⊥
OneThen P Q (byte ∷ rest) = P byte × Q rest

-- Q holds for some end of the text
abbrev pub SomeEnd : (List ℕ → Type 0) → List ℕ → Type 0
SomeEnd Q text = (front end : List ℕ) × (text ≡ front ++ end) × Q end

-- the items match the whole text (kernel: events.rst, event filtering)
abbrev pub Glob : List Item → List ℕ → Type 0
Glob [] text = text ≡ []
Glob (Item.Any ∷ items) text = SomeEnd (Glob items) text
Glob (Item.One ∷ items) text = OneThen (λ byte. Unit {0}) (Glob items) text
Glob (Item.Class negated members ∷ items) text = OneThen (ClassHas negated members) (Glob items) text
Glob (Item.Byte own ∷ items) text = OneThen (λ byte. byte ≡ own) (Glob items) text
