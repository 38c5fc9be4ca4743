-- How a proof tells lanes apart: by what they hold.
use Rattle.std.specs.Prelude.{ℕ, List, refl}
use Rattle.std.specs.Ordering.{nat_cmp}
use Rattle.std.specs.Coded.{Coded, code_by, coded×, coded_list, coded_ℕ}
use Rattle.std.specs.FinMap as map
use Rattle.std.specs.FinMap.{FinMap}
use Rattle.ft_fields.specs.Traced.{Traced}
use Rattle.ft_fields.specs.Codes.{traced_code}
use Rattle.ft_lanes.specs.Held.{Lane, Lanes}

-- a lane, stored as its events and its next number
abbrev pub lane_code : Coded Lane
lane_code = code_by
    (FinMap nat_cmp Traced × ℕ) (coded× (map.code coded_ℕ traced_code) coded_ℕ)
    (λ lane. (lane.events, lane.next)) (λ p. record { events = p.0; next = p.1 }) (λ _. refl)

-- lanes, stored as a map of such
abbrev pub lanes_code : Coded Lanes
lanes_code = map.code coded_ℕ lane_code

-- what a walk over lanes has left, stored as a list
abbrev pub walk_code : Coded (List (ℕ × Lane))
walk_code = coded_list (coded× coded_ℕ lane_code)
