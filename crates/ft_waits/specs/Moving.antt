-- Places of events that were read apart from the events before them: there a line is counted from the part's own start.
use Rattle.std.specs.Prelude.{◌+◌, ◌==◌, ℕ, List, Option, Some, None, nat_lt, if◌then◌else◌}
use Rattle.std.specs.List.{count_by}
use Rattle.ft_fields.specs.Traced.{Traced}
use Rattle.ft_fields.specs.declared.pos.Pos.{Pos}
use Rattle.ft_dispatch.specs.Acts.{Act}

-- how many of these events a CPU has
abbrev pub count_of : List Traced → ℕ → ℕ
count_of events cpu = count_by (λ e. e.cpu == cpu) events

-- a place of a part, behind so many events of each CPU
abbrev pub moved : (ℕ → ℕ) → Pos → Pos
moved counts place = record { stamp = place.stamp; cpu = place.cpu; line = place.line + counts place.cpu }

-- an act at its place, moved so
abbrev pub act_moved : (ℕ → ℕ) → Pos × Act → Pos × Act
act_moved counts entry = (moved counts entry.0, entry.1)

-- a place of a part that is moved so, if its line has a number then
abbrev pub moved_within : (ℕ → ℕ) → Pos → Option Pos
moved_within counts place = if nat_lt (place.line + counts place.cpu) 4294967296 then Some (moved counts place) else None
