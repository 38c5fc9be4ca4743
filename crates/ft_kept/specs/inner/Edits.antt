-- What changes on shelves, and what stays of them.
use Rattle.std.specs.Prelude.{◌≡◌, ℕ, ℤ, List, Option}
use Rattle.std.specs.Option.{option_map_or}
use Rattle.std.specs.FinMap as map
use Rattle.ft_fields.specs.declared.key.Part.{Part}
use Rattle.ft_fields.specs.declared.pos.Pos.{Pos}
use Rattle.ft_hits.specs.declared.mark.Mark.{Mark}
use Rattle.ft_pairs.specs.ByKey.{ops_left}
use Rattle.ft_pairs.specs.declared.at.At.{At}
use Rattle.ft_pairs.specs.declared.role.Role.TheVariants.{Saves}
use Rattle.ft_pairs.specs.declared.role.Variable.{Variable}
use Rattle.ft_shelves.specs.Shelves.{FormsStay, KeepsForm, Kept, Shelved, Shelves, admits_on, kept_on, role_on}
use Rattle.ft_table.specs.Spots.{traced}
use Rattle.ft_kept.specs.Bounds.{table_on}
use Rattle.ft_kept.specs.Entries.{hits_here, read_here}

-- where a hit of an event of the trace stands
abbrev pub mark_at : Pos → List Part → Mark
mark_at pos key = record { spot = traced pos; key = key }

-- on a shelf one hit of an event of the trace changed, and what was read at its place; other hits and readings stay
pub record OneHitChanges (pos : Pos) (key : List Part) (values : Option (List ℤ)) (found : Option Pos) (shelf after : Shelved) : Type 0 where
  pub form : KeepsForm shelf after
  pub read : map.get after.readings pos ≡ found
  pub reads : (p : Pos) → (p ≡ pos → ⊥) → map.get after.readings p ≡ map.get shelf.readings p
  pub hit : map.get after.table.hits (mark_at pos key) ≡ values
  pub hits : (m : Mark) → (m ≡ mark_at pos key → ⊥) → map.get after.table.hits m ≡ map.get shelf.table.hits m

-- hits and readings stay as they were, except at one place
abbrev pub StaysBut : At → Kept → Kept → Type 0
StaysBut at old new = (q : At) → (q ≡ at → ⊥) → ((key : List Part) → hits_here new q key ≡ hits_here old q key) × (read_here new q ≡ read_here old q)

-- operations stay as they were
abbrev pub OpsStay : Kept → Kept → Type 0
OpsStay old new = (variable : Variable) (q : At) → new.ops variable q ≡ old.ops variable q

-- how many operations on a variable stand after a place; how many in all, if no place is given
abbrev pub left_on : Shelves → Variable → Option At → ℕ
left_on shelves variable after = option_map_or (λ shelf. ops_left shelf.ops variable.key after) (map.get shelves variable.saver) 0

-- only what readers counted and read changes: shelves keep their forms and their operations, and savers their tables
pub record ReadersChange (old new : Shelves) : Type 0 where
  pub forms : FormsStay old new
  pub ops : OpsStay (kept_on old) (kept_on new)
  pub left : (variable : Variable) (after : Option At) → left_on new variable after ≡ left_on old variable after
  pub tables : (id : ℕ) → role_on old id ≡ Saves → table_on new id ≡ table_on old id
  pub admits : (id : ℕ) (key : List Part) → admits_on new id key ≡ admits_on old id key
