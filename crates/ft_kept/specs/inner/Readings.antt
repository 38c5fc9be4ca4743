-- Readings that are settled: what has to hold before it, and what is right afterwards.
use Rattle.std.specs.Prelude.{◌≡◌, ◌⊎◌, List, Option, Some, None, option_map}
use Rattle.ft_fields.specs.Traced.{Traced}
use Rattle.ft_fields.specs.declared.key.Part.{Part}
use Rattle.ft_fields.specs.declared.pos.Pos.{Pos}
use Rattle.ft_hist.specs.Hist.{Hist}
use Rattle.ft_hist.specs.Triggers.{Triggers}
use Rattle.ft_pairs.specs.Next.{IsNext}
use Rattle.ft_pairs.specs.declared.at.At.{At}
use Rattle.ft_pairs.specs.declared.at.Op.{Op}
use Rattle.ft_pairs.specs.declared.at.Op.TheVariants.{Read}
use Rattle.ft_pairs.specs.declared.role.Role.TheVariants.{Reads}
use Rattle.ft_pairs.specs.declared.role.Variable.{Variable}
use Rattle.ft_table.specs.Values.{values_at, values_by}
use Rattle.ft_shelves.specs.Shelves.{Shelved, Shelves, role_on, admits_on, kept_on}
use Rattle.ft_kept.specs.Acts.{Acts, AreHeld, op_of}
use Rattle.ft_kept.specs.Entries.{HitsHere, IsCounted, IsEntry, IsReading, hits_here, read_here}
use Rattle.ft_kept.specs.Repairs.{AreShelved}
use Rattle.ft_kept.specs.Signs.{act_after}
use Rattle.ft_kept.specs.Views.{triggers_of}
use Rattle.ft_kept.specs.declared.act.Scene.{Scene}
use Rattle.ft_kept.specs.declared.settle.Reading.{Reading}
use Rattle.ft_kept.specs.inner.Edits.{OneHitChanges, ReadersChange, StaysBut}

-- hits at a place stand under the key of the act there only
abbrev pub IsOwn : Option (List Part × Traced) → HitsHere → Type 0
IsOwn act hits = (key : List Part) → (hits key ≡ None) ⊎ ((a : List Part × Traced) × ((act ≡ Some a) × (a.0 ≡ key)))

-- the reading at a place found what it finds among the operations
abbrev pub IsReadRight : Acts → Shelves → At → Type 0
IsReadRight acts shelves at = IsReading (kept_on shelves).ops at (role_on shelves at.trigger) (acts at) (read_here (kept_on shelves) at)

-- this operation, if there is one, is a read at a place
abbrev pub IsReadAt : Option (At × Op) → At → Type 0
IsReadAt operation at = operation ≡ Some (at, Read)

-- readings can be settled: each trigger has its shelf, the events of all acts are held, the operations are those of the acts, and hits are right by what the readings found
pub record CanSettle (scene : Scene) (acts : Acts) (shelves : Shelves) : Type 0 where
  pub shelved : AreShelved (triggers_of scene) shelves
  pub held : AreHeld (triggers_of scene) scene.lanes.now acts
  pub ops : (variable : Variable) (at : At) → (kept_on shelves).ops variable at ≡ op_of (role_on shelves) (admits_on shelves) acts variable at
  pub counted : (at : At) → IsCounted (values_by (triggers_of scene)) at (role_on shelves at.trigger) (acts at) (hits_here (kept_on shelves) at) (read_here (kept_on shelves) at)

-- a reading is ready to be settled: each trigger has its shelf, its own trigger reads its variable, hits stand at its place under its key only, and its event has the stamp of its place
pub record IsReady (triggers : Triggers) (reading : Reading) (shelves : Shelves) : Type 0 where
  pub shelved : AreShelved triggers shelves
  pub role : role_on shelves reading.at.trigger ≡ Reads reading.variable.saver
  pub own : IsOwn (Some (reading.variable.key, reading.event.now)) (hits_here (kept_on shelves) reading.at)
  pub stamped : reading.event.now.stamp ≡ reading.at.pos.stamp

-- on the shelf of its trigger a reading found this now, with its hit; nothing else of the shelf changed
pub record IsReread (reading : Reading) (hist : Hist) (found : Option Pos) (shelf after : Shelved) : Type 0 where
  pub ops : after.ops ≡ shelf.ops
  pub changes : OneHitChanges reading.at.pos reading.variable.key (option_map (λ saved. values_at hist reading.at.pos reading.event.now (Some saved)) found) found shelf after

-- a reading was settled: only what readers counted and read changed, only at its place, and there it is right
pub record IsSettled (triggers : Triggers) (reading : Reading) (old new : Shelves) : Type 0 where
  pub readers : ReadersChange old new
  pub others : StaysBut reading.at (kept_on old) (kept_on new)
  pub right : IsEntry (values_by triggers) (kept_on new).ops reading.at (Reads reading.variable.saver) (act_after reading.sign (reading.variable.key, reading.event.now))
      (hits_here (kept_on new) reading.at) (read_here (kept_on new) reading.at)

-- readings were settled: only what readers counted and read changed, readings can still be settled, what was right is right, and so are the covered places
pub record AreSettled (scene : Scene) (acts : Acts) (Covered : At → Type 0) (old new : Shelves) : Type 0 where
  pub readers : ReadersChange old new
  pub can : CanSettle scene acts new
  pub right : (at : At) → IsReadRight acts old at ⊎ Covered at → IsReadRight acts new at

-- the next operation on a variable after a place was settled, if it is a read
pub record NextIsSettled (scene : Scene) (acts : Acts) (variable : Variable) (after : At) (old new : Shelves) : Type 0 where
  pub next : Option (At × Op)
  pub is_next : IsNext ((kept_on old).ops variable) (Some after) next
  pub settled : AreSettled scene acts (IsReadAt next) old new

-- at a place there is a read of a variable whose key came into its saver's table or went out
pub record IsSwitched (old new : Shelves) (at : At) : Type 0 where
  pub variable : Variable
  pub reads : (kept_on new).ops variable at ≡ Some Read
  pub moved : admits_on new variable.saver variable.key ≡ admits_on old variable.saver variable.key → ⊥
