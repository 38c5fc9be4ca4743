use Rattle.std.proofs.Common.{◌≡◌, ℕ, ◌<◌, get_or, drop}
use Rattle.std.specs.Ordering.{nat_cmp}
use Rattle.std.specs.FinMap as map
use Rattle.ft_fields.specs.Traced.{Traced}
use Rattle.ft_maps.specs.Seen.{seen}
use Rattle.ft_lanes.specs.Held.{HasCpu}
use Rattle.ft_lanes.specs.inner.Slots.{first_cpu}
use Rattle.ft_lanes.proofs.load.held_cpu_in.Given as goal

abbrev pub invariant-loop-place : goal.invariant-loop-place
invariant-loop-place l =
    (first_cpu (map.contains_key (seen nat_cmp l.lanes)) l.events ≡ first_cpu (map.contains_key (seen nat_cmp l.lanes)) (drop l.place l.events))
    × ((k : ℕ) (event : Traced) → k < l.place → HasCpu (get_or l.events k event))
