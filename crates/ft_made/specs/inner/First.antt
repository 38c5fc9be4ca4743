-- Definitions for private functions: what is kept of readings, as changes from nothing.
use Rattle.std.specs.Prelude.{ℕ, List, [], Some, None, map as list_map}
use Rattle.std.specs.Option.{option_map_or}
use Rattle.ft_hist.specs.Hist.{Hist}
use Rattle.ft_changes.specs.declared.changed.ReadingChange.{ReadingChange}
use Rattle.ft_replay.specs.declared.pair.Pair.{Pair}

-- a reading that had found nothing finds a saving
abbrev pub first_change : ℕ → Pair → ReadingChange
first_change id pair = record { id = id; pos = pair.read; before = None; after = Some pair.saved }

-- the readings of a trigger that makes events, as changes from nothing; none for any other trigger
abbrev pub first_changes : (ℕ → List Pair) → ℕ × Hist → List ReadingChange
first_changes pairs maker = option_map_or (λ onmatch. list_map (first_change maker.0) (pairs maker.0)) maker.1.onmatch []
