-- Lanes of some CPUs.
use Rattle.std.specs.Prelude.{ℕ, Bool, List, ◌==◌, not}
use Rattle.std.specs.List.{list_any}
use Rattle.std.specs.FinMap as map
use Rattle.ft_lanes.specs.Held.{Lanes}

-- the CPU is among these
abbrev pub is_among : List ℕ → ℕ → Bool
is_among cpus cpu = list_any (λ other. other == cpu) cpus

-- the lanes of these CPUs
abbrev pub lanes_of : List ℕ → Lanes → Lanes
lanes_of cpus lanes = map.retain_keys lanes (is_among cpus)

-- the lanes of all other CPUs
abbrev pub lanes_but : List ℕ → Lanes → Lanes
lanes_but cpus lanes = map.retain_keys lanes (λ cpu. not (is_among cpus cpu))
