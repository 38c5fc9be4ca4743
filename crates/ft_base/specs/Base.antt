-- What a desk holds and what is attached to it.
use Rattle.std.specs.Prelude.{ℕ}
use Rattle.std.specs.FinMap as map
pub use Rattle.ft_hist.specs.Triggers.{Triggers}
use Rattle.ft_lanes.specs.Held.{Lanes}

-- lanes, attached triggers, and the next id
pub record Base : Type 0 where
  pub lanes : Lanes
  pub triggers : Triggers
  pub next_id : ℕ

-- nothing held and nothing attached; the first trigger gets id 1
abbrev pub empty_base : Base
empty_base = record { lanes = map.empty; triggers = map.empty; next_id = 1 }

-- the most triggers that are attached (our own choice)
abbrev pub trigger_limit : ℕ
trigger_limit = 64

-- the greatest id (our own choice)
abbrev pub id_limit : ℕ
id_limit = 4294967295
