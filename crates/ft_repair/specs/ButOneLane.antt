-- What is kept while the events of one lane go.
use Rattle.std.specs.Prelude.{ℕ}
use Rattle.std.specs.FinMap as map
use Rattle.ft_kept.specs.Shelves.{Shelves}
use Rattle.ft_base.specs.Base.{Base}
use Rattle.ft_replay.specs.Merged.{merged}
use Rattle.ft_repair.specs.KeptShelves.{AreKept}

-- the shelves are kept of a base's triggers and of all its events except those of one CPU
abbrev pub AreKeptWithoutLane : Base → ℕ → Shelves → Type 0
AreKeptWithoutLane base cpu shelves = AreKept base.triggers (merged (map.remove base.lanes cpu)) shelves
