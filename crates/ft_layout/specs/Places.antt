-- Where events stand, and the time between two of them, as C has it. All of it is our own choice.
use Rattle.std.specs.Prelude.{◌-◌}
use Rattle.ft_base.specs.declared.refused.Place.{Place}
use Rattle.ft_fields.specs.declared.pos.Pos.{Pos}
use Rattle.ft_replay.specs.declared.pair.Pair.{Pair}
use Rattle.ft_layout.specs.declared.places.LineLayout.{LineLayout}
use Rattle.ft_layout.specs.declared.places.PlaceLayout.{PlaceLayout}
use Rattle.ft_layout.specs.declared.places.LatencyLayout.{LatencyLayout}

-- a line of a lane
abbrev pub line_layout : Place → LineLayout
line_layout place = record { cpu = place.cpu; line = place.line }

-- a place in the merged order
abbrev pub place_layout : Pos → PlaceLayout
place_layout pos = record { stamp = pos.stamp; cpu = pos.cpu; line = pos.line }

-- a pair as a latency: both places, and the microseconds from the saving to the reading
abbrev pub latency_layout : Pair → LatencyLayout
latency_layout pair = record { saved = place_layout pair.saved; read = place_layout pair.read; micros = pair.read.stamp - pair.saved.stamp }
