-- Triggers that stay, while others come, go or get another filter.
use Rattle.std.specs.Prelude.{◌≡◌, ℕ, true, Some}
use Rattle.std.specs.FinMap as map
use Rattle.ft_base.specs.Base.{Triggers}
use Rattle.ft_kept.specs.Shelves.{Shelved, Shelves}
use Rattle.ft_base.specs.OneTrigger.{reads_from}
use Rattle.ft_base.specs.Roles.{role_at}

-- a saver stays, the same triggers read what it saves, and each of these stays (kernel: histogram.rst, inter-event hist triggers)
pub record IsReadAlike (triggers others : Triggers) (saver : ℕ) : Type 0 where
  pub own : map.get others saver ≡ map.get triggers saver
  pub readers : (id : ℕ) → reads_from saver (role_at others id) ≡ reads_from saver (role_at triggers id)
  pub stay : (id : ℕ) → reads_from saver (role_at triggers id) ≡ true → map.get others id ≡ map.get triggers id

-- a trigger's table, and what its readings found, stay
abbrev pub ReadsAsBefore : ℕ → Shelves → Shelves → Type 0
ReadsAsBefore id old new = (shelf its : Shelved) → map.get old id ≡ Some shelf → map.get new id ≡ Some its → (its.table ≡ shelf.table) × (its.readings ≡ shelf.readings)
