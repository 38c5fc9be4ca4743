-- The first events of CPUs, newest first.
use Rattle.std.specs.Prelude.{ℕ, ℤ, ◌+◌, ◌&&◌, min, Bool, List, [], ◌∷◌, ◌++◌, Option, Some, None, option_map, if◌then◌else◌}
use Rattle.std.specs.Option.{is_none, option_or}
use Rattle.ft_losses.specs.Notes.{Note, Passed, Marked, Silent}
use Rattle.ft_fields.specs.declared.pos.Pos.{Pos}
use Rattle.ft_waits.specs.Missing.{passed, running, is_other, missing_in}
use Rattle.ft_waits.specs.Reading.{place_after}
use Rattle.ft_waits.specs.declared.missing.Missing.{Missing}
use Rattle.ft_waits.specs.declared.ran.Ran.{Ran}
use Rattle.ft_waits.specs.declared.starts.Start.{Start}

-- an event that may be the first of its CPU: the task that runs, its place, and whether no event before it shows that a switch is missing
abbrev pub start_of : ℤ → Pos → Missing → Start
start_of pid place missing = record { pid = pid; place = place; is_clear = is_none missing.first }

-- such an event, unless a note before it says anything of what its CPU runs
abbrev pub started : Option Ran → Start → List Start
started None start = start ∷ []
started (Some ran) start = []

-- the first events of CPUs, after one note more
abbrev pub starts_after : Note → List Note → List Start → List Start
starts_after (Passed event) before starts = started (running event.cpu before) (start_of event.pid (place_after (passed before) event) (missing_in before)) ++ starts
starts_after (Marked mark) before starts = starts
starts_after Silent before starts = starts

-- the first events of CPUs, of which no note before says anything
unfoldable pub starts_of : List Note → List Start
starts_of [] = []
starts_of (note ∷ before) = starts_after note before (starts_of before)

-- ---- the seam before a part

-- the largest count
abbrev pub most : ℕ
most = 18446744073709551615

-- what is missing, and the first events of CPUs, the oldest first, as the first events of a part are taken
pub record Seam : Type 0 where
  pub missing : Missing
  pub starts : List Start

-- one switch more is missing before an event, by whether the part shows none before it
abbrev pub with_start : Bool → Bool → Pos → Missing → Missing
with_start other clear place missing = record { switches = if other then min (missing.switches + 1) most else missing.switches; first = if other && clear then option_or missing.first (Some place) else missing.first }

-- the first event of a CPU in a part, by what the CPU ran before the part: it shows whether a switch is missing, or is the CPU's first event of all
abbrev pub seam_after : Option Ran → Pos → Start → Seam → Seam
seam_after None place start so_far = record { missing = so_far.missing; starts = so_far.starts ++ record { pid = start.pid; place = place; is_clear = start.is_clear && is_none so_far.missing.first } ∷ [] }
seam_after (Some ran) place start so_far = record { missing = with_start (is_other (Some ran) start.pid) start.is_clear place so_far.missing; starts = so_far.starts }

-- those of all CPUs, newest first
unfoldable pub seam : (ℕ → Option Ran) → (Pos → Pos) → Seam → List Start → Seam
seam ran move before [] = before
seam ran move before (start ∷ earlier) = seam_after (ran start.place.cpu) (move start.place) start (seam ran move before earlier)

-- what is missing with a part, whose places lie behind
abbrev pub missing_with : (Pos → Pos) → Missing → Missing → Missing
missing_with move before part = record { switches = min (before.switches + part.switches) most; first = option_or before.first (option_map move part.first) }
