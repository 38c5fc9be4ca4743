-- A saver's act that comes or goes: the operations on what it saves follow the keys of its table, and readings follow these.
use Rattle.std.specs.Prelude.{◌≡◌, ◌⊎◌, ℕ, true, false, List, Option, Some, None}
use Rattle.std.specs.FinMap as map
use Rattle.ft_fields.specs.declared.key.Part.{Part}
use Rattle.ft_pairs.specs.Next.{IsNext}
use Rattle.ft_pairs.specs.declared.at.At.{At}
use Rattle.ft_pairs.specs.declared.at.Op.{Op}
use Rattle.ft_pairs.specs.declared.at.Op.TheVariants.{Read}
use Rattle.ft_pairs.specs.declared.role.Variable.{Variable}
use Rattle.ft_shelves.specs.Following.{MovesKeys}
use Rattle.ft_shelves.specs.Shelves.{Shelves, admits_on, kept_on}
use Rattle.ft_shelves.specs.declared.saver.Moved.{Moved}
use Rattle.ft_kept.specs.Acts.{Acts}
use Rattle.ft_kept.specs.declared.act.Act.{Act}
use Rattle.ft_kept.specs.inner.Changing.{IsInPlace}
use Rattle.ft_kept.specs.inner.Readings.{AreSettled, IsReadAt}

-- the variable of a key that a saver's act may bear on
abbrev pub variable_at : Act → List Part → Variable
variable_at act key = record { saver = act.at.trigger; key = key }

-- no key moved
abbrev pub NoneMoved : Moved → Type 0
NoneMoved moves = (moves.own ≡ false) × (moves.other ≡ None)

-- a key moved: the act's own or the other one
abbrev pub IsMoved : List Part → Moved → List Part → Type 0
IsMoved own moves key = ((moves.own ≡ true) × (key ≡ own)) ⊎ (moves.other ≡ Some key)

-- a saver's act is in its place, the other shelves stayed, and of the keys of its table these moved
pub record HasFollowed (act : Act) (acts : Acts) (moves : Moved) (old new : Shelves) : Type 0 where
  pub placed : IsInPlace act acts old new
  pub others : (id : ℕ) → (id ≡ act.at.trigger → ⊥) → map.get new id ≡ map.get old id
  pub moved : MovesKeys act.key moves (admits_on old act.at.trigger) (admits_on new act.at.trigger)

-- a read of a key that moved stands at a place
abbrev pub ReadsMoved : Act → Moved → Shelves → At → Type 0
ReadsMoved act moves shelves q = (key : List Part) × (IsMoved act.key moves key × ((kept_on shelves).ops (variable_at act key) q ≡ Some Read))

-- the readings of the keys that moved were settled, and the next one on the act's key if that didn't move
pub record MovedAreSettled (act : Act) (acts : Acts) (moves : Moved) (old new : Shelves) : Type 0 where
  pub next : Option (At × Op)
  pub is_next : moves.own ≡ false → IsNext ((kept_on old).ops (variable_at act act.key)) (Some act.at) next
  pub settled : AreSettled act.scene acts (λ q. IsReadAt next q ⊎ ReadsMoved act moves old q) old new
