-- What shelves tell of the readings of triggers.
use Rattle.std.specs.Prelude.{ℕ, List}
use Rattle.std.specs.Option.{option_map_or}
use Rattle.std.specs.FinMap as map
use Rattle.ft_kept.specs.Shelves.{Readings, Shelves}
use Rattle.ft_replay.specs.declared.pair.Pair.{Pair}
use Rattle.ft_replay.specs.Found.{pairs_in}

-- what the readings of the trigger with an id found: nothing if it has no shelf
abbrev pub readings_on : Shelves → ℕ → Readings
readings_on shelves id = option_map_or (λ shelf. shelf.readings) (map.get shelves id) map.empty

-- the same as pairs
abbrev pub pairs_on : Shelves → ℕ → List Pair
pairs_on shelves id = pairs_in (readings_on shelves id)
