-- What maps that are kept beside the events hold: what each hit adds, by spot and key, and what each reading found, by place.
use Rattle.std.specs.Prelude.{ℕ, ℤ, List, Option, Some, None, option_and_then, map as list_map, if◌then◌else◌}
use Rattle.std.specs.FinMap as map
use Rattle.std.specs.FinMap.{FinMap}
use Rattle.ft_fields.specs.declared.pos.Pos.{Pos}
use Rattle.ft_fields.specs.Places.{pos_cmp}
use Rattle.ft_fields.specs.Parts.{same_key}
use Rattle.ft_hits.specs.declared.mark.Mark.{Mark}
use Rattle.ft_replay.specs.declared.pair.Pair.{Pair}
use Rattle.ft_base.specs.Base.{Triggers}
use Rattle.ft_replay.specs.Merged.{Events}
use Rattle.ft_replay.specs.Hits.{hit_at, hit_on}

-- what the trigger's hit at a spot under a key adds to the sums, if there is one (kernel: histogram.rst, `values`)
unfoldable pub values_found : Triggers → Events → ℕ → Mark → Option (List ℤ)
values_found triggers events id mark =
    option_and_then (λ found. if same_key mark.key found.key then Some found.values else None) (hit_on triggers events id mark.spot)

-- the place of the saving that the trigger's hit at a place read, if there is one and it read (kernel: histogram.rst, inter-event hist triggers)
unfoldable pub saving_found : Triggers → Events → ℕ → Pos → Option Pos
saving_found triggers events id at = option_and_then (λ found. found.saved) (hit_at triggers events id at)

-- the pairs of a map from the places of readings to those of savings, in merged order of the reading
abbrev pub pairs_in : FinMap pos_cmp Pos → List Pair
pairs_in readings = list_map (λ e. record { saved = e.1; read = e.0 }) (map.entries readings)
