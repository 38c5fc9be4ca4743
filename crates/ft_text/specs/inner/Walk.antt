-- What a match's steps say of the items that a pattern reads as.
use Rattle.std.specs.Prelude.{◌≡◌, ◌<◌, ◌≤◌, ◌↔◌, ◌⊎◌, ℕ, List, ◌∷◌, length}
use Rattle.ft_text.specs.declared.globs.Step.{Step}
use Rattle.ft_text.specs.declared.globs.Step.TheVariants as steps
use Rattle.ft_text.specs.Glob.{Member, MembersAre, SomeHas, Item, ItemsAre, ClassHas, Glob}

-- the text is members
abbrev pub ReadsAsMembers : List ℕ → Type 0
ReadsAsMembers text = (members : List Member) × MembersAre text members

-- the text is items
abbrev pub ReadsAsItems : List ℕ → Type 0
ReadsAsItems text = (items : List Item) × ItemsAre text items

-- the text begins with a member of these bounds, which is sound exactly if they are in order; both bounds of a single byte are that byte
pub record Bounds (text : List ℕ) (low high : ℕ) (rest : List ℕ) : Type 0 where
  pub reads : ReadsAsMembers text ↔ ((low ≤ high) × ReadsAsMembers rest)
  pub has : (members : List Member) → MembersAre text members → (behind : List Member) × MembersAre rest behind × ((byte : ℕ) → SomeHas members byte ↔ (((low ≤ byte) × (byte ≤ high)) ⊎ SomeHas behind byte))

-- the item is for one byte, and takes this one
abbrev pub Takes : Item → ℕ → Type 0
Takes Item.Any byte = ⊥
Takes Item.One byte = Unit {0}
Takes (Item.Class negated members) byte = ClassHas negated members byte
Takes (Item.Byte own) byte = byte ≡ own

-- what a step says of the items before a byte: a star stands first, the first takes the byte, or the items match no text that begins with it
abbrev pub StepIs : List Item → ℕ → Step → Type 0
StepIs items byte (steps.Star rest) = (behind : List Item) × (items ≡ Item.Any ∷ behind) × ItemsAre rest.now behind
StepIs items byte (steps.Past rest) = (item : Item) × (behind : List Item) × (items ≡ item ∷ behind) × Takes item byte × ItemsAre rest.now behind
StepIs items byte steps.Miss = (text : List ℕ) → Glob items (byte ∷ text) → ⊥

-- a step leaves less of the pattern
abbrev pub Shortens : List ℕ → Step → Type 0
Shortens pattern (steps.Star rest) = length rest.now < length pattern
Shortens pattern (steps.Past rest) = length rest.now < length pattern
Shortens pattern steps.Miss = Unit {0}
