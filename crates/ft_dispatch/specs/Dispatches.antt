-- Since when a task that a CPU switches to was runnable, as the acts before say it. Acts stand with their places, newest first.
use Rattle.std.specs.Prelude.{ℤ, pos, Bool, false, not, ◌&&◌, ◌||◌, List, [], ◌∷◌, ◌++◌, Option, Some, None, if◌then◌else◌}
use Rattle.std.specs.Option.{option_or}
use Rattle.std.specs.Ordering.{int_eq}
use Rattle.ft_fields.specs.declared.pos.Pos.{Pos}
use Rattle.ft_dispatch.specs.Acts.{Act, Waking, Creation, Wakeup, Switch, Handover, can_run, is_queued}
use Rattle.ft_dispatch.specs.declared.dispatch.Left.{Left}
use Rattle.ft_dispatch.specs.declared.dispatch.Since.{Since}
use Rattle.ft_dispatch.specs.declared.dispatch.Dispatch.{Dispatch}

-- whether an act wakes a task
abbrev pub wakes : ℤ → Act → Bool
wakes pid (Waking by woken) = int_eq woken pid
wakes pid (Creation by created) = false
wakes pid (Wakeup by woken) = false
wakes pid (Switch turn) = false

-- whether it ends the waking of a task: the task is on a run queue then
abbrev pub rouses : ℤ → Act → Bool
rouses pid (Waking by woken) = false
rouses pid (Creation by created) = false
rouses pid (Wakeup by woken) = int_eq woken pid
rouses pid (Switch turn) = false

-- whether it creates a task
abbrev pub creates : ℤ → Act → Bool
creates pid (Waking by woken) = false
creates pid (Creation by created) = int_eq created pid
creates pid (Wakeup by woken) = false
creates pid (Switch turn) = false

-- whether it takes the CPU from a task
abbrev pub leaves : ℤ → Act → Bool
leaves pid (Waking by woken) = false
leaves pid (Creation by created) = false
leaves pid (Wakeup by woken) = false
leaves pid (Switch turn) = int_eq turn.prev_pid pid

-- whether it runs a task
abbrev pub runs : ℤ → Act → Bool
runs pid (Waking by woken) = false
runs pid (Creation by created) = false
runs pid (Wakeup by woken) = false
runs pid (Switch turn) = int_eq turn.next_pid pid

-- whether it shows that a task runs: it stands on a line of the task, and is not the switch that leaves it
abbrev pub shows : ℤ → Act → Bool
shows pid (Waking by woken) = int_eq by pid
shows pid (Creation by created) = int_eq by pid
shows pid (Wakeup by woken) = int_eq by pid
shows pid (Switch turn) = int_eq turn.by pid && not (int_eq turn.prev_pid pid)

-- whether it leaves a task that can still run
abbrev pub leaves_runnable : Act → Bool
leaves_runnable (Waking by woken) = false
leaves_runnable (Creation by created) = false
leaves_runnable (Wakeup by woken) = false
leaves_runnable (Switch turn) = can_run turn.prev_state

-- whether it leaves a task that can run, and can't be woken before it has run again
abbrev pub leaves_queued : Act → Bool
leaves_queued (Waking by woken) = false
leaves_queued (Creation by created) = false
leaves_queued (Wakeup by woken) = false
leaves_queued (Switch turn) = is_queued turn.prev_state

-- the last act that passes a test, of those since the task last ran
unfoldable pub last_since_run : (Act → Bool) → ℤ → List (Pos × Act) → Option (Pos × Act)
last_since_run passes pid [] = None
last_since_run passes pid (entry ∷ before) =
    if runs pid entry.1 then None
    else (if passes entry.1 then Some entry else last_since_run passes pid before)

-- the last act that runs a task, or shows that it runs
unfoldable pub last_seen : ℤ → List (Pos × Act) → Option (Pos × Act)
last_seen pid [] = None
last_seen pid (entry ∷ before) = if runs pid entry.1 || shows pid entry.1 then Some entry else last_seen pid before

-- the first act that ends the waking of a task, of those since its last waking and since it last ran
unfoldable pub first_roused : ℤ → List (Pos × Act) → Option (Pos × Act)
first_roused pid [] = None
first_roused pid (entry ∷ before) =
    if runs pid entry.1 || wakes pid entry.1 then None
    else option_or (first_roused pid before) (if rouses pid entry.1 then Some entry else None)

-- where it stands
abbrev pub place_of : Option (Pos × Act) → Option Pos
place_of None = None
place_of (Some entry) = Some entry.0

-- where it stands, and how it leaves the task
abbrev pub left_by : Option (Pos × Act) → Option Left
left_by None = None
left_by (Some entry) = Some (record { place = entry.0; runnable = leaves_runnable entry.1; queued = leaves_queued entry.1 })

-- where a task became runnable: its last waking, its last creation, and the last switch that took the CPU from it, with how it was then, and the end of its last waking: each since it last ran; and the last act that runs it or shows that it runs
unfoldable pub runnable_since : ℤ → List (Pos × Act) → Since
runnable_since pid before = record {
  woken = place_of (last_since_run (wakes pid) pid before);
  created = place_of (last_since_run (creates pid) pid before);
  left = left_by (last_since_run (leaves pid) pid before);
  seen = place_of (last_seen pid before);
  roused = place_of (first_roused pid before);
}

-- a task that a switch at a place left, and that could not run then
abbrev pub blocked_at : Pos → Since → Since
blocked_at place since = record { woken = since.woken; created = since.created; left = Some (record { place = place; runnable = false; queued = false }); seen = since.seen; roused = since.roused }

-- what a switch at a place ends: a task that the CPU takes from itself was left there, and waited for nothing
abbrev pub ended_by : Pos → Handover → Since → Since
ended_by place turn since = if int_eq turn.prev_pid turn.next_pid then blocked_at place since else since

-- the dispatch by a switch at a place; task 0 runs if no other can, and waits for nothing
abbrev pub dispatch_at : Pos → Handover → Since → List Dispatch
dispatch_at place turn since =
    if int_eq turn.next_pid (pos 0) then []
    else record { pid = turn.next_pid; prio = turn.next_prio; name = turn.next_comm; place = place; since = ended_by place turn since } ∷ []

-- the dispatch by an act, if it is a switch, from where each task became runnable
abbrev pub dispatch_of : Pos → Act → (ℤ → Since) → List Dispatch
dispatch_of place (Waking by woken) since = []
dispatch_of place (Creation by created) since = []
dispatch_of place (Wakeup by woken) since = []
dispatch_of place (Switch turn) since = dispatch_at place turn (since turn.next_pid)

-- the dispatches of acts, the oldest first
unfoldable pub dispatches : List (Pos × Act) → List Dispatch
dispatches [] = []
dispatches (entry ∷ before) = dispatches before ++ dispatch_of entry.0 entry.1 (λ pid. runnable_since pid before)
