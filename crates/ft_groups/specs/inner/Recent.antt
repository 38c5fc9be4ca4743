-- Numbers that were met, and the keys of their events.
use Rattle.std.specs.Prelude.{◌≡◌, ℕ, ℤ, List, Some, slice_get}
use Rattle.ft_fields.specs.Traced.{Traced}
use Rattle.ft_fields.specs.declared.key.Part.{Part}
use Rattle.ft_hist.specs.Hit.{hit}
use Rattle.ft_groups.specs.declared.keys.KeyFinder.{KeyFinder}
use Rattle.ft_groups.specs.declared.recent.Slot.{Slot}
use Rattle.ft_groups.specs.inner.Finding.{counted_by}

-- the slot that holds a number and its index
abbrev pub noted : ℤ → ℕ → Slot
noted number index = record { number = number; index = Some index }

-- a slot stands among others
pub record IsIn (slots : List Slot) (slot : Slot) : Type 0 where
  pub at : ℕ
  pub is : slice_get slots at ≡ Some slot

-- all events that a trigger counts by a number come under the key at an index
pub record IsKeyOf (finder : KeyFinder) (keys : List (List Part)) (number : ℤ) (index : ℕ) : Type 0 where
  pub key : List Part
  pub stands : slice_get keys index ≡ Some key
  pub hits : (event : Traced) → counted_by finder event ≡ Some number → hit finder.trigger.now event ≡ Some key

-- each number that is known has the index of its key
abbrev pub AreMet : KeyFinder → List (List Part) → List Slot → Type 0
AreMet finder keys slots = (number : ℤ) (index : ℕ) → IsIn slots (noted number index) → IsKeyOf finder keys number index
