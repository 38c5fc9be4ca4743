-- Shelves: what is kept of each attached trigger.
use Rattle.std.specs.Prelude.{◌≡◌, ◌&&◌, ℕ, ℤ, Bool, true, false, List, Option, Some, None, option_and_then, refl}
use Rattle.std.specs.Coded.{Coded, code_by, coded×}
use Rattle.std.specs.Option.{option_map_or}
use Rattle.std.specs.Ordering.{nat_cmp}
use Rattle.std.specs.FinMap as map
use Rattle.std.specs.FinMap.{FinMap}
use Rattle.ft_fields.specs.Places.{pos_cmp}
use Rattle.ft_fields.specs.contracts.pos.Pos as pos
use Rattle.ft_fields.specs.declared.pos.Pos.{Pos}
use Rattle.ft_fields.specs.declared.key.Part.{Part}
use Rattle.ft_pairs.specs.ByKey.{OpsByKey, ops_of}
use Rattle.ft_pairs.specs.Codes.{by_key_code}
use Rattle.ft_pairs.specs.Source.{Ops}
use Rattle.ft_pairs.specs.declared.at.At.{At}
use Rattle.ft_table.specs.Codes.{tabled_code}
use Rattle.ft_table.specs.Hits.{Hits}
use Rattle.ft_table.specs.Spots.{IsMade}
use Rattle.ft_table.specs.Tabled.{Tabled, is_in}
use Rattle.ft_hits.specs.declared.mark.Mark.{Mark}
use Rattle.ft_pairs.specs.Roles.{Admits}
use Rattle.ft_pairs.specs.contracts.role.Role as role
use Rattle.ft_pairs.specs.declared.role.Role.{Role}
use Rattle.ft_pairs.specs.declared.role.Role.TheVariants.{Plain, Saves}
use Rattle.ft_pairs.specs.declared.role.Variable.{Variable}

-- what readings found: by the place of the reading, the place of the saving (kernel: histogram.rst, inter-event hist triggers)
abbrev pub Readings : Type 0
Readings = FinMap pos_cmp Pos

-- what is kept of one trigger: what it does with its variable, its hits, the operations on what it saves, and what its readings found
pub record Shelved : Type 0 where
  pub role : Role
  pub table : Tabled
  pub ops : OpsByKey
  pub readings : Readings

-- a shelf, stored as its parts
abbrev pub shelved_code : Coded Shelved
shelved_code = code_by
    (Role × (Tabled × (OpsByKey × Readings)))
    (coded× role.the_row.coded (coded× tabled_code (coded× by_key_code (map.code pos.the_row.coded pos.the_row.coded))))
    (λ s. (s.role, (s.table, (s.ops, s.readings)))) (λ p. record { role = p.0; table = p.1.0; ops = p.1.1.0; readings = p.1.1.1 }) (λ _. refl)

-- shelves by the trigger's id
abbrev pub Shelves : Type 0
Shelves = FinMap nat_cmp Shelved

-- ---- what shelves tell

-- what the trigger with an id does with its variable
unfoldable pub role_on : Shelves → ℕ → Role
role_on shelves id = option_map_or (λ shelf. shelf.role) (map.get shelves id) Plain

-- a trigger with this role saves
abbrev pub is_saver : Role → Bool
is_saver Saves = true
is_saver other = false

-- the keys that savers' tables have (kernel: histogram.rst, `size`)
unfoldable pub admits_on : Shelves → Admits
admits_on shelves id key = option_map_or (λ shelf. is_saver shelf.role && is_in shelf.table key) (map.get shelves id) false

-- what is kept: what each hit adds, by trigger, spot and key; the operations on each variable; and the place of the saving that each reading found
pub record Kept : Type 0 where
  pub hits : ℕ → Mark → Option (List ℤ)
  pub ops : Variable → Ops
  pub read : ℕ → Pos → Option Pos

-- what shelves keep
unfoldable pub kept_on : Shelves → Kept
kept_on shelves = record {
  hits = λ id mark. option_and_then (λ shelf. map.get shelf.table.hits mark) (map.get shelves id);
  ops = λ variable at. option_and_then (λ shelf. ops_of shelf.ops variable.key at) (map.get shelves variable.saver);
  read = λ id pos. option_and_then (λ shelf. map.get shelf.readings pos) (map.get shelves id);
}

-- ---- what stays, while hits and operations change

-- the hits of events that triggers made stay
abbrev pub MadeStay : Hits → Hits → Type 0
MadeStay old new = (m : Mark) → IsMade m.spot → map.get new m ≡ map.get old m

-- a shelf keeps its role, its size, and the hits of events that triggers made
pub record KeepsForm (old new : Shelved) : Type 0 where
  pub role : new.role ≡ old.role
  pub size : new.table.size ≡ old.table.size
  pub made : MadeStay old.table.hits new.table.hits

-- a shelf stays, with its role, its size and the hits of made events; if there is none, there is none afterwards
abbrev pub FormStays : Option Shelved → Option Shelved → Type 0
FormStays None new = new ≡ None
FormStays (Some shelf) new = (after : Shelved) × ((new ≡ Some after) × KeepsForm shelf after)

-- each trigger keeps its shelf, with its role, its size and the hits of made events
abbrev pub FormsStay : Shelves → Shelves → Type 0
FormsStay old new = (id : ℕ) → FormStays (map.get old id) (map.get new id)

-- a shelf of this role and size has nothing on it
pub record IsNewShelf (wanted : Role) (size : ℕ) (shelf : Shelved) : Type 0 where
  pub role : shelf.role ≡ wanted
  pub table : shelf.table ≡ record { hits = map.empty; size = size }
  pub ops : (key : List Part) (at : At) → ops_of shelf.ops key at ≡ None
  pub readings : shelf.readings ≡ map.empty

-- a trigger has a new shelf, and the others keep theirs
abbrev pub AddsShelf : ℕ → Role → ℕ → Shelves → Shelves → Type 0
AddsShelf id wanted size old new = (shelf : Shelved) × ((new ≡ map.insert old id shelf) × IsNewShelf wanted size shelf)

-- one shelf changes so, if there is one, and the others stay
pub record ChangesShelf (id : ℕ) (Change : Shelved → Shelved → Type 0) (old new : Shelves) : Type 0 where
  pub others : (i : ℕ) → (i ≡ id → ⊥) → map.get new i ≡ map.get old i
  pub none : map.get old id ≡ None → map.get new id ≡ None
  pub here : (shelf : Shelved) → map.get old id ≡ Some shelf → (after : Shelved) × ((map.get new id ≡ Some after) × Change shelf after)
