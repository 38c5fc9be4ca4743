use Rattle.std.proofs.Common.{◌≡◌, ◌++◌, length}
use Rattle.std.specs.Map.{keys_of, values_of}
use Rattle.std.specs.FinMap as map
use Rattle.ft_lanes.specs.inner.Rows.{held_rows}
use Rattle.ft_lanes.specs.inner.Slots.{placed_from}
use Rattle.ft_lanes.proofs.rebuild.append_lane.Given as goal

-- with the lines that are left it is all of them
abbrev pub invariant-loop-line : goal.invariant-loop-line
invariant-loop-line l =
    (l.store ++ values_of l.line-iterator ≡ l.initial.store ++ values_of (map.entries l.lane.events))
    × (held_rows l.lines.items ≡ l.lines.items)
    × (l.lines.items ++ placed_from (length l.store) (keys_of l.line-iterator) ≡ placed_from (length l.initial.store) (keys_of (map.entries l.lane.events)))
