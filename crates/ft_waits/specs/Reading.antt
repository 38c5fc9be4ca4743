-- The dispatches of a trace text, and why a text is refused. Lines and events stand newest first.
use Rattle.std.specs.Prelude.{◌≡◌, ◌≤◌, ◌<◌, ◌⊎◌, ℕ, suc, Bool, true, false, List, [], ◌∷◌, ◌++◌, length, reverse, Option, Some, None, Result, Ok, Err, ◌==◌, nat_lt, if◌then◌else◌}
use Rattle.std.specs.Option.{option_or}
use Rattle.std.specs.List.{count_by, slice_index}
use Rattle.std.specs.FinMap as map
use Rattle.ft_fields.specs.Places.{pos_cmp}
use Rattle.ft_fields.specs.Traced.{Traced, last_cpu}
use Rattle.ft_fields.specs.declared.pos.Pos.{Pos}
use Rattle.ft_event.specs.declared.fault.Line.{Line}
use Rattle.ft_event.specs.declared.fault.Line.TheVariants as lines
use Rattle.ft_event.specs.declared.fault.LineFault.{LineFault}
use Rattle.ft_event.specs.Line.{line_of}
use Rattle.ft_text.specs.Lines.{lines_of, ended_lines}
use Rattle.ft_dispatch.specs.Acts.{Act}
use Rattle.ft_dispatch.specs.Dispatches.{dispatches}
use Rattle.ft_dispatch.specs.declared.dispatch.Dispatch.{Dispatch}
use Rattle.ft_waits.specs.declared.fault.BadLine.{BadLine}
use Rattle.ft_waits.specs.declared.fault.BadLines.{BadLines}
use Rattle.ft_waits.specs.declared.fault.BadLines.TheVariants as policies
use Rattle.ft_waits.specs.declared.fault.LinesRead.{LinesRead}
use Rattle.ft_waits.specs.declared.fault.WaitsFault.{WaitsFault}
use Rattle.ft_waits.specs.declared.fault.WaitsFault.TheVariants as faults
use Rattle.ft_waits.specs.declared.left_out.Without.{Without}
use Rattle.ft_waits.specs.LeftOut.{act_without}

-- ---- the events of lines

-- the events with that of one more line; a line that is skipped or can't be read has none
abbrev pub with_line : Result Line LineFault → List Traced → List Traced
with_line (Ok (lines.Event event)) before = event ∷ before
with_line (Ok lines.Skip) before = before
with_line (Err fault) before = before

-- the events of lines
unfoldable pub events_of : List (List ℕ) → List Traced
events_of [] = []
events_of (line ∷ before) = with_line (line_of line) (events_of before)

-- where an event stands: its line is its number among the events of its CPU, from 1
abbrev pub place_after : List Traced → Traced → Pos
place_after before event = record { stamp = event.stamp; cpu = event.cpu; line = suc (count_by (λ e. e.cpu == event.cpu) before) }

-- an act at its place, if there is one
abbrev pub act_at : Pos → Option Act → List (Pos × Act)
act_at place None = []
act_at place (Some act) = (place, act) ∷ []

-- what events say of who runs, each act at its event's place; those that are left out say nothing, and have their places
unfoldable pub acts_of : List Without → List Traced → List (Pos × Act)
acts_of without [] = []
acts_of without (event ∷ before) = act_at (place_after before event) (act_without without event) ++ acts_of without before

-- the acts in the order of their places: by stamp, CPU and line
abbrev pub in_order : List (Pos × Act) → List (Pos × Act)
in_order acts = map.entries (map.from_entries {R = pos_cmp} acts)

-- ---- the answer

-- the lines of a text, newest first
abbrev pub history : List ℕ → List (List ℕ)
history text = reverse (lines_of text)

-- its lines that have ended, newest first
abbrev pub history_so_far : List ℕ → List (List ℕ)
history_so_far text = reverse (ended_lines text)

-- the dispatches of lines, without some of their events
abbrev pub dispatches_of_lines : List Without → List (List ℕ) → List Dispatch
dispatches_of_lines without lines = dispatches (reverse (in_order (acts_of without (events_of lines))))

-- the dispatches of a trace text, without some of its events
abbrev pub dispatches_in : List Without → List ℕ → List Dispatch
dispatches_in without text = dispatches_of_lines without (history text)

-- ---- what was read

-- whether a line can't be read
abbrev pub is_bad : Result Line LineFault → Bool
is_bad (Ok line) = false
is_bad (Err fault) = true

-- a line that can't be read, by its number
abbrev pub bad_at : ℕ → Result Line LineFault → Option BadLine
bad_at number (Ok line) = None
bad_at number (Err fault) = Some (record { line = number; fault = fault })

-- the first line that can't be read
unfoldable pub first_bad : List (List ℕ) → Option BadLine
first_bad [] = None
first_bad (line ∷ before) = option_or (first_bad before) (bad_at (suc (length before)) (line_of line))

-- how many lines there are, how many of them can't be read, and which is the first of these
unfoldable pub lines_read : List (List ℕ) → LinesRead
lines_read lines = record { lines = length lines; bad = count_by (λ line. is_bad (line_of line)) lines; first = first_bad lines }

-- the stamp of the first event
unfoldable pub first_stamp : List Traced → Option ℕ
first_stamp [] = None
first_stamp (event ∷ before) = option_or (first_stamp before) (Some event.stamp)

-- the stamp of the last event
abbrev pub last_stamp : List Traced → Option ℕ
last_stamp [] = None
last_stamp (event ∷ before) = Some event.stamp

-- so many events of each CPU are among these
abbrev pub CountsEvents : List ℕ → List Traced → Type 0
CountsEvents counts events = (cpu : ℕ) → cpu ≤ last_cpu → slice_index counts cpu ≡ count_by (λ e. e.cpu == cpu) events

-- ---- why a text is refused

-- the most events that are numbered on a CPU
abbrev pub number_limit : ℕ
number_limit = 4294967295

-- the last event's stamp
abbrev pub latest : List Traced → ℕ
latest [] = 0
latest (event ∷ before) = event.stamp

-- why a line is refused: it can't be read, if such lines are refused; or its event's stamp is before the last event's
abbrev pub refusal_of : BadLines → ℕ → ℕ → Result Line LineFault → Option WaitsFault
refusal_of policy number last (Ok (lines.Event event)) = if nat_lt event.stamp last then Some (faults.Backwards number) else None
refusal_of policy number last (Ok lines.Skip) = None
refusal_of policies.Refuse number last (Err fault) = Some (faults.BadLine (record { line = number; fault = fault }))
refusal_of policies.Skip number last (Err fault) = None

-- why lines are refused: by the first line that is
unfoldable pub refused : BadLines → List (List ℕ) → Option WaitsFault
refused policy [] = None
refused policy (line ∷ before) = option_or (refused policy before) (refusal_of policy (suc (length before)) (latest (events_of before)) (line_of line))

-- why reading these lines ends: memory, more lines than are numbered, or the first line that is refused
abbrev pub FailsAt : BadLines → List (List ℕ) → WaitsFault → Type 0
FailsAt policy lines fault = (fault ≡ faults.Memory) ⊎ (((fault ≡ faults.TooLong) × (number_limit < length lines)) ⊎ (refused policy lines ≡ Some fault))

-- why a text is refused, whatever comes after it
abbrev pub Fails : BadLines → List ℕ → WaitsFault → Type 0
Fails policy text fault = (later : List ℕ) → FailsAt policy (history (text ++ later)) fault
