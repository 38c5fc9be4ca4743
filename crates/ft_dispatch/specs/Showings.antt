-- Stretches of time in which a task must have run though no event says so. Acts stand newest first.
use Rattle.std.specs.Prelude.{ℕ, ℤ, pos, Bool, ◌||◌, not, List, [], ◌∷◌, ◌++◌, Option, Some, None, nat_lt, if◌then◌else◌}
use Rattle.std.specs.Option.{is_some}
use Rattle.std.specs.Ordering.{int_eq}
use Rattle.ft_fields.specs.declared.pos.Pos.{Pos}
use Rattle.ft_dispatch.specs.Acts.{Act, Waking, Creation, Wakeup, Switch}
use Rattle.ft_dispatch.specs.Began.{is_later}
use Rattle.ft_dispatch.specs.Dispatches.{runnable_since}
use Rattle.ft_dispatch.specs.declared.dispatch.Left.{Left}
use Rattle.ft_dispatch.specs.declared.dispatch.Since.{Since}
use Rattle.ft_dispatch.specs.declared.showing.FirstWaking.{FirstWaking}
use Rattle.ft_dispatch.specs.declared.showing.Showing.{Showing}

-- ---- what acts show

-- the later one of two places
abbrev pub latest_of : Option Pos → Option Pos → Option Pos
latest_of first second = if is_later first second then second else first

-- where a task was last left, if it was left in a state in which it can't be woken before it has run again
abbrev pub queued_at : Left → Option Pos
queued_at left = if left.queued then Some left.place else None

-- where a task became runnable, by what was last said of it: it was woken, created, or left so that it can't be woken before it has run again
abbrev pub ready_by : Option Left → Option Pos → Option Pos
ready_by None made = made
ready_by (Some left) made = if is_later (Some left.place) made then made else queued_at left

-- a place, unless the task was seen to run in the same microsecond or later
abbrev pub unless_seen : Option Pos → Option Pos → Option Pos
unless_seen seen None = None
unless_seen None (Some place) = Some place
unless_seen (Some seen) (Some place) = if nat_lt seen.stamp place.stamp then Some place else None

-- where a task became runnable, if it has not been seen to run since then
abbrev pub ready_since : Since → Option Pos
ready_since since = unless_seen since.seen (ready_by since.left (latest_of since.woken since.created))

-- what a waking at a stamp shows of a task that is runnable since this place: only a task that slept can be woken, so it has run since then
abbrev pub showing_at : ℕ → Option Pos → List Showing
showing_at at None = []
showing_at at (Some ready) = if nat_lt ready.stamp at then record { from = ready.stamp; at = at } ∷ [] else []

-- what an act shows, from where each task became runnable: a waking of a task by another
abbrev pub showing_of : Pos → Act → (ℤ → Since) → List Showing
showing_of place (Waking by woken) since = if int_eq woken (pos 0) then [] else (if int_eq by woken then [] else showing_at place.stamp (ready_since (since woken)))
showing_of place (Creation by created) since = []
showing_of place (Wakeup by woken) since = []
showing_of place (Switch turn) since = []

-- what acts show, the oldest first
unfoldable pub showings : List (Pos × Act) → List Showing
showings [] = []
showings (entry ∷ before) = showings before ++ showing_of entry.0 entry.1 (λ pid. runnable_since pid before)

-- ---- first wakings

-- whether nothing is said of a task but the end of its waking: it was not woken, created, left or seen to run
abbrev pub is_unsaid : Since → Bool
is_unsaid since = not ((is_some since.left || (is_some since.woken || is_some since.created)) || is_some since.seen)

-- a waking at a stamp, if nothing was said of its task before: what it shows depends on what came before all acts
abbrev pub first_at : ℕ → ℤ → Since → List FirstWaking
first_at at woken since = if is_unsaid since then record { pid = woken; at = at } ∷ [] else []

-- the same of an act: a waking of a task by another
abbrev pub first_of : Pos → Act → (ℤ → Since) → List FirstWaking
first_of place (Waking by woken) since = if int_eq woken (pos 0) then [] else (if int_eq by woken then [] else first_at place.stamp woken (since woken))
first_of place (Creation by created) since = []
first_of place (Wakeup by woken) since = []
first_of place (Switch turn) since = []

-- the first wakings of acts, the oldest first
unfoldable pub first_wakings : List (Pos × Act) → List FirstWaking
first_wakings [] = []
first_wakings (entry ∷ before) = first_wakings before ++ first_of entry.0 entry.1 (λ pid. runnable_since pid before)

-- what a part's first waking shows, by what was known of each task before the part; and whether it is a first waking of all acts
abbrev pub shown_by : (ℤ → Since) → FirstWaking → List Showing
shown_by known first = showing_at first.at (ready_since (known first.pid))

abbrev pub first_by : (ℤ → Since) → FirstWaking → List FirstWaking
first_by known first = first_at first.at first.pid (known first.pid)
