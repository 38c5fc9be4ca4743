-- Definitions for private functions: what replaying leaves of readings.
use Rattle.std.specs.Prelude.{ℕ, List, []}
use Rattle.std.specs.Option.{option_map_or}
use Rattle.std.specs.FinMap as map
use Rattle.ft_replay.specs.declared.pair.Pair.{Pair}
use Rattle.ft_replay.specs.Counters.{Counters}

-- the pairs of the counter with an id; none if there is no such counter
abbrev pub pairs_by : Counters → ℕ → List Pair
pairs_by counters id = option_map_or (λ counter. counter.pairs) (map.get counters id) []
