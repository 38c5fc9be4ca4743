-- Where a CPU's events were lost: between two of its events, if a line between them reports it; or before its first event, if only the header says that events were overwritten and another CPU begins earlier. Notes stand newest first.
use Rattle.std.specs.Prelude.{ℕ, zero, suc, ◌+◌, ◌==◌, ◌&&◌, Bool, true, false, not, min, nat_lt, List, [], ◌∷◌, ◌++◌, length, Option, Some, None, option_map, if◌then◌else◌}
use Rattle.std.specs.Option.{option_or, option_and_then, is_some, is_none}
use Rattle.std.specs.List.{flat_map, list_any}
use Rattle.ft_event.specs.Marks.{last_count}
use Rattle.ft_event.specs.declared.mark.Mark.{Mark}
use Rattle.ft_event.specs.declared.mark.Mark.TheVariants as marks
use Rattle.ft_losses.specs.Notes.{Note, Passed, Marked, Silent}
use Rattle.ft_losses.specs.declared.hole.Beginning.{Beginning}
use Rattle.ft_losses.specs.declared.hole.Buffers.{Buffers}
use Rattle.ft_losses.specs.declared.hole.Header.{Header}
use Rattle.ft_losses.specs.declared.hole.Hole.{Hole}
use Rattle.ft_losses.specs.declared.hole.Loss.{Loss}

-- ---- a CPU's events

-- the stamp of a CPU's last event, after one note more
abbrev pub stamp_after : ℕ → Note → Option ℕ → Option ℕ
stamp_after cpu (Passed event) last = if event.cpu == cpu then Some event.stamp else last
stamp_after cpu (Marked mark) last = last
stamp_after cpu Silent last = last

-- the stamp of a CPU's last event
unfoldable pub last_stamp : ℕ → List Note → Option ℕ
last_stamp cpu [] = None
last_stamp cpu (note ∷ before) = stamp_after cpu note (last_stamp cpu before)

-- the stamp of a CPU's first event, after one note more
abbrev pub first_after : ℕ → Note → Option ℕ → Option ℕ
first_after cpu (Passed event) first = if event.cpu == cpu then option_or first (Some event.stamp) else first
first_after cpu (Marked mark) first = first
first_after cpu Silent first = first

-- the stamp of a CPU's first event
unfoldable pub first_stamp : ℕ → List Note → Option ℕ
first_stamp cpu [] = None
first_stamp cpu (note ∷ before) = first_after cpu note (first_stamp cpu before)

-- ---- how the buffers begin

-- what lines report of it, after a mark on a line
abbrev pub beginning_after_mark : ℕ → Mark → Beginning → Beginning
beginning_after_mark line (marks.Lost of count) known = known
beginning_after_mark line (marks.Started of) known = record { header = known.header; is_marked = true }
beginning_after_mark line (marks.Overwritten of count) known = known
beginning_after_mark line (marks.Written held written) known = record { header = option_or known.header (Some (record { line = line; buffers = record { held = held; written = written } })); is_marked = known.is_marked }

-- the same after one note more
abbrev pub beginning_after : ℕ → Note → Beginning → Beginning
beginning_after line (Passed event) known = known
beginning_after line (Marked mark) known = beginning_after_mark line mark known
beginning_after line Silent known = known

-- what the first line of a header counts, and whether a line says of any CPU that its buffer begins
unfoldable pub beginning : List Note → Beginning
beginning [] = record { header = None; is_marked = false }
beginning (note ∷ before) = beginning_after (suc (length before)) note (beginning before)

-- how many events the buffers held of those that were written, by the header
abbrev pub buffers : List Note → Option Buffers
buffers notes = option_map (λ header. header.buffers) (beginning notes).header

-- ---- losses

-- the sum of what is known of two counts, up to the largest count
abbrev pub sum_known : Option ℕ → Option ℕ → Option ℕ
sum_known None count = count
sum_known (Some known) None = Some known
sum_known (Some known) (Some count) = Some (min (known + count) last_count)

-- a loss, with one more line that reports it
abbrev pub reported : ℕ → Option ℕ → Option Loss → Loss
reported line count None = record { line = line; count = count }
reported line count (Some loss) = record { line = loss.line; count = sum_known loss.count count }

-- what a CPU lost since its last event, after a mark on a line
abbrev pub loss_after_mark : ℕ → ℕ → Mark → Option Loss → Option Loss
loss_after_mark cpu line (marks.Lost of count) loss = if of == cpu then Some (reported line count loss) else loss
loss_after_mark cpu line (marks.Started of) loss = if of == cpu then Some (reported line None loss) else loss
loss_after_mark cpu line (marks.Overwritten of count) loss = loss
loss_after_mark cpu line (marks.Written held written) loss = loss

-- the same after one note more
abbrev pub loss_after : ℕ → ℕ → Note → Option Loss → Option Loss
loss_after cpu line (Passed event) loss = if event.cpu == cpu then None else loss
loss_after cpu line (Marked mark) loss = loss_after_mark cpu line mark loss
loss_after cpu line Silent loss = loss

-- what a CPU lost since its last event, if a line reports it
unfoldable pub lost_since : ℕ → List Note → Option Loss
lost_since cpu [] = None
lost_since cpu (note ∷ before) = loss_after cpu (suc (length before)) note (lost_since cpu before)

-- how many events of a CPU were overwritten before its first one, after a mark
abbrev pub overwritten_after_mark : ℕ → Mark → Option ℕ → Option ℕ
overwritten_after_mark cpu (marks.Overwritten of count) before = if of == cpu then Some count else before
overwritten_after_mark cpu (marks.Lost of count) before = before
overwritten_after_mark cpu (marks.Started of) before = before
overwritten_after_mark cpu (marks.Written held written) before = before

-- the same after one note more
abbrev pub overwritten_after : ℕ → Note → Option ℕ → Option ℕ
overwritten_after cpu (Passed event) before = before
overwritten_after cpu (Marked mark) before = overwritten_after_mark cpu mark before
overwritten_after cpu Silent before = before

-- how many events of a CPU were overwritten before its first one, by the last line that reports it
unfoldable pub overwritten : ℕ → List Note → Option ℕ
overwritten cpu [] = None
overwritten cpu (note ∷ before) = overwritten_after cpu note (overwritten cpu before)

-- whether a line tells how many events of a CPU were overwritten before its first one
abbrev pub is_told : ℕ → List Note → Bool
is_told cpu notes = is_some (overwritten cpu notes)

-- ---- holes

-- the hole that a CPU's loss makes, after its last event and before its next one
abbrev pub hole_of : ℕ → Option ℕ → Option ℕ → Option Loss → List Hole
hole_of cpu after before None = []
hole_of cpu after before (Some loss) = record { cpu = Some cpu; line = loss.line; after = after; before = before; count = loss.count } ∷ []

-- the hole that an event ends
abbrev pub hole_ended_by : Note → List Note → List Hole
hole_ended_by (Passed event) before = hole_of event.cpu (last_stamp event.cpu before) (Some event.stamp) (lost_since event.cpu before)
hole_ended_by (Marked mark) before = []
hole_ended_by Silent before = []

-- the holes that events ended, the first one first
unfoldable pub ended_holes : List Note → List Hole
ended_holes [] = []
ended_holes (note ∷ before) = ended_holes before ++ hole_ended_by note before

-- the hole of a CPU that lasts to the end
abbrev pub open_hole : List Note → ℕ → List Hole
open_hole notes cpu = hole_of cpu (last_stamp cpu notes) None (lost_since cpu notes)

-- the CPUs below a number
unfoldable pub cpus_below : ℕ → List ℕ
cpus_below zero = []
cpus_below (suc cpu) = cpus_below cpu ++ cpu ∷ []

-- the holes that last to the end, by CPU, of which there are 8192
abbrev pub open_holes : List Note → List Hole
open_holes notes = flat_map (open_hole notes) (cpus_below 8192)

-- a hole before a CPU's first event, by a count of overwritten events: as it is without a count, with the count if that isn't 0; no hole if it is 0
abbrev pub counted_as : Hole → Option ℕ → List Hole
counted_as hole None = hole ∷ []
counted_as hole (Some count) = if count == 0 then [] else (record hole { count = Some count } ∷ [])

-- a hole, by how many events of its CPU were overwritten before the first one
abbrev pub counted_by : Option ℕ → Hole → List Hole
counted_by count hole = if is_none hole.after && is_none hole.count then counted_as hole count else (hole ∷ [])

-- whether a first event, if there is one, is before a stamp
abbrev pub is_earlier : Option ℕ → ℕ → Bool
is_earlier None stamp = false
is_earlier (Some first) stamp = nat_lt first stamp

-- whether the first event of any CPU is
abbrev pub any_earlier : (ℕ → Option ℕ) → ℕ → Bool
any_earlier firsts stamp = list_any (λ cpu. is_earlier (firsts cpu) stamp) (cpus_below 8192)

-- the hole before a CPU's first event, by whether another CPU's first event is before a stamp
abbrev pub late_hole : (ℕ → Bool) → ℕ → ℕ → Option ℕ → List Hole
late_hole earlier line cpu None = []
late_hole earlier line cpu (Some first) = if earlier first then (record { cpu = Some cpu; line = line; after = None; before = Some first; count = None } ∷ []) else []

-- the holes of all CPUs that begin late, by CPU, with the line that reports them
abbrev pub all_late : (ℕ → Option ℕ) → ℕ → List Hole
all_late firsts line = flat_map (λ cpu. late_hole (any_earlier firsts) line cpu (firsts cpu)) (cpus_below 8192)

-- these, if the header counts fewer events than were written, and no line says of any CPU that its buffer begins
abbrev pub late_by : (ℕ → Option ℕ) → Bool → Option Header → List Hole
late_by firsts marked None = []
late_by firsts marked (Some header) = if nat_lt header.buffers.held header.buffers.written && not marked then all_late firsts header.line else []

-- the holes of CPUs that begin late
abbrev pub late_holes : List Note → List Hole
late_holes notes = late_by (λ cpu. first_stamp cpu notes) (beginning notes).is_marked (beginning notes).header

-- the holes: those of CPUs that begin late, by CPU; those that events ended, the first one first; and those that last to the end, by CPU
abbrev pub holes : List Note → List Hole
holes notes = flat_map (λ hole. counted_by (option_and_then (λ cpu. overwritten cpu notes) hole.cpu) hole) (late_holes notes ++ ended_holes notes ++ open_holes notes)
