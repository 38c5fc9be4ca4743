use Rattle.std.proofs.Common.{◌≡◌, ◌++◌, nat_le, filter, map as list_map}
use Rattle.ft_replay.specs.Merged.{place_of}
use Rattle.ft_answers.proofs.in_lane.places_from.Given as goal

-- with those of the lines that are left it is all
abbrev pub invariant-loop-line : goal.invariant-loop-line
invariant-loop-line l =
    l.found.items ++ list_map (place_of l.cpu) (filter (λ entry. nat_le l.first entry.0) l.line-iterator) ≡ list_map (place_of l.cpu) (filter (λ entry. nat_le l.first entry.0) l.fn.lines)
