-- What a wait began with: which of the places counts.
use Rattle.std.specs.Prelude.{ℕ, Bool, true, false, ◌&&◌, not, Option, Some, None, option_map, nat_lt, if◌then◌else◌}
use Rattle.std.specs.Ordering.{is_lt}
use Rattle.ft_fields.specs.declared.pos.Pos.{Pos}
use Rattle.ft_fields.specs.Places.{pos_cmp}
use Rattle.ft_dispatch.specs.declared.began.Began.{Began}
use Rattle.ft_dispatch.specs.declared.began.Cause.{Cause}
use Rattle.ft_dispatch.specs.declared.began.Cause.TheVariants as causes
use Rattle.ft_dispatch.specs.declared.dispatch.Left.{Left}
use Rattle.ft_dispatch.specs.declared.dispatch.Since.{Since}

-- ---- what made a task runnable

-- whether the second place comes after the first; no place comes before any
abbrev pub is_later : Option Pos → Option Pos → Bool
is_later first None = false
is_later None (Some place) = true
is_later (Some first) (Some place) = is_lt (pos_cmp first place)

-- a wait that began so at a place, if there is one
abbrev pub began_at : Cause → Option Pos → Option Began
began_at cause place = option_map (λ p. record { cause = cause; place = p }) place

-- what made the task runnable while it was not: its creation, if that came after its waking, else its waking
abbrev pub awoken : Since → Option Began
awoken since = if is_later since.woken since.created then began_at causes.Created since.created else began_at causes.Woken since.woken

-- whether a task that was left while it could run was made runnable once more: its number was given to a new task; or it was woken, so it ran and slept since, of which no event says anything
abbrev pub is_renewed : Left → Since → Bool
is_renewed left since = if is_later (Some left.place) since.created then true else is_later (Some left.place) since.woken

-- what made the task runnable last, by where it was last left: that it was left, if it could run then and was not made runnable once more; else what woke or created it
abbrev pub runnable_by : Option Left → Since → Option Began
runnable_by None since = awoken since
runnable_by (Some left) since = if left.runnable && not (is_renewed left since) then Some (record { cause = causes.Preempted; place = left.place }) else awoken since

-- ---- whether that still counts

-- whether an event that shows the task running stands at a later stamp than a place: in the same microsecond the order of CPUs says nothing
abbrev pub is_past : Option Pos → Pos → Bool
is_past None place = false
is_past (Some seen) place = nat_lt place.stamp seen.stamp

-- whether a task was last left when it could not run, and not at an earlier stamp than it was last seen to run
abbrev pub is_asleep_since : Option Pos → Option Left → Bool
is_asleep_since seen None = false
is_asleep_since seen (Some left) = not left.runnable && not (is_past seen left.place)

-- what a wait began with counts no more, if the task was seen to run later; but if it was left asleep after that, something unknown has woken it, and the wait is kept, though it isn't sure
abbrev pub unless_over : Since → Option Began → Option Began
unless_over since None = None
unless_over since (Some began) = if is_past since.seen began.place && not (is_asleep_since since.seen since.left) then None else Some began

-- what the wait of a task began with, if anything made it runnable since it was last seen to run
abbrev pub waiting_since : Since → Option Began
waiting_since since = unless_over since (runnable_by since.left since)

-- ---- whether it was left asleep later

-- whether a task was left there when it could not run, at a later stamp
abbrev pub is_asleep_later : Option Left → ℕ → Bool
is_asleep_later None stamp = false
is_asleep_later (Some left) stamp = not left.runnable && nat_lt stamp left.place.stamp

-- whether the last waking of a task ended where the task was last left, or later, by stamps: the kernel ends the waking of a task that goes to sleep once it has left its CPU
abbrev pub is_roused_after : Option Left → Option Pos → Bool
is_roused_after left None = false
is_roused_after None (Some roused) = true
is_roused_after (Some left) (Some roused) = not (nat_lt roused.stamp left.place.stamp)

-- whether a wait began with a waking
abbrev pub is_woken : Cause → Bool
is_woken causes.Woken = true
is_woken causes.Created = false
is_woken causes.Preempted = false

-- whether a wait began with the waking of a task that was about to sleep, and had not run since: the waking ended once the task had left its CPU
abbrev pub is_of_sleeper : Since → Began → Bool
is_of_sleeper since began = is_woken began.cause && (is_roused_after since.left since.roused && not (is_past since.seen began.place))

-- whether a wait that began with this began before its task was last left asleep, and not with the waking of a task that was about to sleep: what woke the task after that is unknown
abbrev pub is_before_sleep : Since → Began → Bool
is_before_sleep since began = is_asleep_later since.left began.place.stamp && not (is_of_sleeper since began)
