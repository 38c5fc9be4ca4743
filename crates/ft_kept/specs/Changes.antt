-- What repairs of what is kept change, and what is recorded of that.
use Rattle.std.specs.Prelude.{◌≡◌, ◌⊎◌, ◌++◌, ◌+◌, ◌*◌, ◌≤◌, ℕ, Bool, false, List, Option, None, length, nat_eq, map as list_map, option_map}
use Rattle.std.specs.List.{filter, list_any}
use Rattle.ft_changes.specs.Findings.{Lead}
use Rattle.ft_changes.specs.declared.changed.ReadingChange.{ReadingChange}
use Rattle.ft_hist.specs.Hist.{Hist}
use Rattle.ft_hits.specs.declared.mark.Mark.{Mark}
use Rattle.ft_fields.specs.declared.key.Part.{Part}
use Rattle.ft_fields.specs.Parts.{same_key}
use Rattle.ft_pairs.specs.declared.role.Role.{Role}
use Rattle.ft_pairs.specs.declared.role.Role.TheVariants.{Plain, Saves, Reads}
use Rattle.ft_shelves.specs.Shelves.{Shelves, kept_on, role_on}
use Rattle.ft_kept.specs.declared.changes.Changes.{Changes}
use Rattle.ft_kept.specs.declared.changes.KeyChange.{KeyChange}
use Rattle.ft_kept.specs.declared.changes.Whose.{Whose}
use Rattle.ft_kept.specs.declared.changes.Whose.TheVariants.{Trigger, ReadersOf}

-- more was recorded after what was recorded before, or nothing is recorded any more
abbrev pub Tells : {T : Type 0} → List T → Option (List T) → Option (List T) → Type 0
Tells more old new = (new ≡ None) ⊎ (new ≡ option_map (λ told. told ++ more) old)

-- ---- keys

-- the hits of the trigger with an id, which has this role, are among these
abbrev pub whose_of : Role → ℕ → Whose
whose_of Plain id = Trigger id
whose_of Saves id = Trigger id
whose_of (Reads saver) id = ReadersOf saver

-- the same hits are meant
abbrev pub same_whose : Whose → Whose → Bool
same_whose (Trigger id) (Trigger other) = nat_eq id other
same_whose (ReadersOf saver) (ReadersOf other) = nat_eq saver other
same_whose whose other = false

-- the keys that are recorded of some hits
abbrev pub keys_of : Whose → List KeyChange → List (List Part)
keys_of whose changes = list_map (λ change. change.key) (filter (λ change. same_whose whose change.whose) changes)

-- a key is one of them
abbrev pub is_told : List KeyChange → Whose → List Part → Bool
is_told changes whose key = list_any (same_key key) (keys_of whose changes)

-- each trigger's hits stay, except under the keys that are recorded of them
abbrev pub HitsStayBut : List KeyChange → Shelves → Shelves → Type 0
HitsStayBut changes old new =
    (id : ℕ) (mark : Mark) → is_told changes (whose_of (role_on old id) id) mark.key ≡ false → (kept_on new).hits id mark ≡ (kept_on old).hits id mark

-- a trigger with this role reads what the saver with an id saves
abbrev pub is_reader_of : ℕ → Role → Bool
is_reader_of saver (Reads id) = nat_eq saver id
is_reader_of saver role = false

-- how many keys are recorded of some hits at most, if these triggers are asked: one of each trigger's own; of a saver's readers one for each reader, and two for the saver
abbrev pub most : (ℕ → Role) → List (ℕ × Hist) → Whose → ℕ
most role triggers (Trigger id) = length (filter (λ t. nat_eq id t.0) triggers)
most role triggers (ReadersOf saver) = length (filter (λ t. is_reader_of saver (role t.0)) triggers) + 2 * length (filter (λ t. nat_eq saver t.0) triggers)

-- no more keys are recorded
abbrev pub AreFew : (ℕ → Role) → List (ℕ × Hist) → List KeyChange → Type 0
AreFew role triggers changes = (whose : Whose) → length (keys_of whose changes) ≤ most role triggers whose

-- ---- what it says

-- changes of readings that were recorded lead from what was found to what is
pub record ReadingsTold (before after : Option (List ReadingChange)) (old new : Shelves) : Type 0 where
  pub readings : List ReadingChange
  pub told : Tells readings before after
  pub lead : Lead readings (kept_on old).read (kept_on new).read

-- hits stay, except under these keys, and what was recorded of readings says how they changed
pub record ChangeUnder (keys : List KeyChange) (before after : Option (List ReadingChange)) (old new : Shelves) : Type 0 where
  pub hits : HitsStayBut keys old new
  pub readings : ReadingsTold before after old new

-- these keys were recorded, and what was recorded says how shelves changed
pub record HasTold (keys : List KeyChange) (before after : Changes) (old new : Shelves) : Type 0 where
  pub told : Tells keys before.keys after.keys
  pub under : ChangeUnder keys before.readings after.readings old new

-- and few keys were recorded, if these triggers were asked
pub record HasToldFew (triggers : List (ℕ × Hist)) (before after : Changes) (old new : Shelves) : Type 0 where
  pub keys : List KeyChange
  pub few : AreFew (role_on old) triggers keys
  pub told : HasTold keys before after old new
