-- What totals and latencies print. All of it is our own choice.
use Rattle.std.specs.Prelude.{ℕ, List, ◌++◌, length, codes, decimal}
use Rattle.std.specs.List.{flat_map}
use Rattle.ft_table.specs.declared.row.Totals.{Totals}
use Rattle.ft_base.specs.declared.refused.Place.{Place}
use Rattle.ft_base.specs.declared.latency.Latency.{Latency}

-- the line of totals
unfoldable pub totals_line : Totals → List ℕ
totals_line totals = codes "hits " ++ decimal totals.hits ++ codes " entries " ++ decimal totals.entries ++ codes " dropped " ++ decimal totals.dropped ++ codes "\n"

-- a line of a lane, by its CPU and its number there
abbrev pub lane_place_text : Place → List ℕ
lane_place_text place = decimal place.cpu ++ codes ":" ++ decimal place.line

-- the line of a latency: the line that was saved, the line that read it, the microseconds between
unfoldable pub latency_line : Latency → List ℕ
latency_line latency = lane_place_text latency.saved ++ codes " -> " ++ lane_place_text latency.read ++ codes ": " ++ decimal latency.micros ++ codes " us\n"

-- the lines of latencies, and how many they are
unfoldable pub latency_lines : List Latency → List ℕ
latency_lines latencies = flat_map latency_line latencies ++ codes "Latencies: " ++ decimal (length latencies) ++ codes "\n"
