-- Switches that are missing though no line reports them: a CPU runs another task than the one that it went to last, and no line between reports that it lost events. Notes and events stand newest first.
use Rattle.std.specs.Prelude.{ℕ, ◌+◌, ℤ, Bool, true, false, not, List, [], ◌∷◌, Option, Some, None, ◌==◌, if◌then◌else◌}
use Rattle.std.specs.Option.{option_or, option_map_or}
use Rattle.std.specs.Ordering.{int_eq}
use Rattle.ft_event.specs.declared.mark.Mark.{Mark}
use Rattle.ft_event.specs.declared.mark.Mark.TheVariants as marks
use Rattle.ft_fields.specs.Fields.{turn_of}
use Rattle.ft_fields.specs.Traced.{Traced}
use Rattle.ft_fields.specs.declared.pos.Pos.{Pos}
use Rattle.ft_losses.specs.Notes.{Note, Passed, Marked, Silent}
use Rattle.ft_waits.specs.Reading.{place_after}
use Rattle.ft_waits.specs.declared.missing.Missing.{Missing}
use Rattle.ft_waits.specs.declared.ran.Ran.{Ran}
use Rattle.ft_waits.specs.declared.ran.Ran.TheVariants as rans

-- ---- events

-- the events, after one note more
abbrev pub passed_after : Note → List Traced → List Traced
passed_after (Passed event) before = event ∷ before
passed_after (Marked mark) before = before
passed_after Silent before = before

-- the events among notes
unfoldable pub passed : List Note → List Traced
passed [] = []
passed (note ∷ before) = passed_after note (passed before)

-- ---- what CPUs run

-- the task that a CPU runs after an event: the one that a switch goes to, else the one that ran
abbrev pub runs_after : Traced → ℤ
runs_after event = option_map_or (λ turn. turn.next_pid) (turn_of event.body) event.pid

-- what a CPU runs after a mark: it isn't known, if the mark reports that the CPU lost events
abbrev pub running_after_mark : ℕ → Mark → Option Ran → Option Ran
running_after_mark cpu (marks.Lost of count) ran = if of == cpu then Some rans.Lost else ran
running_after_mark cpu (marks.Started of) ran = if of == cpu then Some rans.Lost else ran
running_after_mark cpu (marks.Overwritten of count) ran = ran
running_after_mark cpu (marks.Written held written) ran = ran

-- the same after one note more
abbrev pub running_after : ℕ → Note → Option Ran → Option Ran
running_after cpu (Passed event) ran = if event.cpu == cpu then Some (rans.Task (runs_after event)) else ran
running_after cpu (Marked mark) ran = running_after_mark cpu mark ran
running_after cpu Silent ran = ran

-- what a CPU runs after these notes, if one of them says anything of it
unfoldable pub running : ℕ → List Note → Option Ran
running cpu [] = None
running cpu (note ∷ before) = running_after cpu note (running cpu before)

-- whether another task runs than the one that ran last, if it is known which did
abbrev pub is_other : Option Ran → ℤ → Bool
is_other None pid = false
is_other (Some rans.Lost) pid = false
is_other (Some (rans.Task ran)) pid = not (int_eq ran pid)

-- ---- what is missing

-- one event more, by whether it shows that a switch is missing, and its place
abbrev pub with_event : Bool → Pos → Missing → Missing
with_event false place missing = missing
with_event true place missing = record { switches = missing.switches + 1; first = option_or missing.first (Some place) }

-- the same of one note more
abbrev pub missing_after : Note → List Note → Missing → Missing
missing_after (Passed event) before missing = with_event (is_other (running event.cpu before) event.pid) (place_after (passed before) event) missing
missing_after (Marked mark) before missing = missing
missing_after Silent before missing = missing

-- how many events show that a switch is missing before them, and the first one
unfoldable pub missing_in : List Note → Missing
missing_in [] = record { switches = 0; first = None }
missing_in (note ∷ before) = missing_after note before (missing_in before)
