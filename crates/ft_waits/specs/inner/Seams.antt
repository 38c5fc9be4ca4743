-- A part that was read apart, behind what was read before it.
use Rattle.std.specs.Prelude.{◌≡◌, ◌≤◌, ◌<◌, ◌+◌, min, ℕ, List, [], ◌++◌, length, reverse, Some, None, is_some, slice_index, map as list_map}
use Rattle.std.specs.List.{AllByRecursion, flat_map}
use Rattle.ft_fields.specs.Traced.{Traced, last_cpu}
use Rattle.ft_fields.specs.declared.pos.Pos.{Pos}
use Rattle.ft_dispatch.specs.Acts.{Act}
use Rattle.ft_dispatch.specs.Joining.{place_behind, act_behind, joined_behind, AreAfter, AreOfTasks, AreUpTo}
use Rattle.ft_dispatch.specs.Dispatches.{runnable_since}
use Rattle.ft_dispatch.specs.Showings.{showings, first_wakings, shown_by, first_by}
use Rattle.ft_dispatch.specs.Telling.{Tells}
use Rattle.ft_dispatch.specs.declared.showing.FirstWaking.{FirstWaking}
use Rattle.ft_dispatch.specs.declared.showing.Showing.{Showing}
use Rattle.ft_losses.specs.Notes.{Note}
use Rattle.ft_losses.specs.Telling.{IsOnCpu}
use Rattle.ft_waits.specs.Missing.{passed}
use Rattle.ft_windows.specs.Telling.{Keeps}
use Rattle.ft_windows.specs.declared.windows.Windows.{Windows}
use Rattle.ft_dispatch.specs.declared.act.PlacedAct.{PlacedAct}
use Rattle.ft_dispatch.specs.declared.dispatch.Dispatch.{Dispatch}
use Rattle.ft_waits.specs.Reading.{acts_of, in_order, first_stamp, latest, number_limit, CountsEvents}
use Rattle.ft_waits.specs.inner.Known.{Follows, HasShown, Misses, left_out_by, most_counted}
use Rattle.ft_waits.specs.declared.kept.KeptActs.{KeptActs}
use Rattle.ft_waits.specs.declared.left_out.LeftOut.{LeftOut}
use Rattle.ft_waits.specs.declared.left_out.Without.{Without}
use Rattle.ft_waits.specs.declared.state.State.{State}

-- a held act of a part, behind
abbrev pub held_behind : (Pos → Pos) → PlacedAct → PlacedAct
held_behind move act = record { place = move act.place; by = act.by; kind = act.kind; pid = act.pid; prev_pid = act.prev_pid; prev_state = act.prev_state; prio = act.prio; name = act.name }

-- an act whose line has a number behind so many events of each CPU
abbrev pub HasNumber : List ℕ → Pos × Act → Type 0
HasNumber counts entry = entry.0.line + slice_index counts entry.0.cpu ≤ 4294967295

-- what the acts of a part showed, and what its first wakings show behind the acts before it, has been given to the windows, and those that are first wakings of all acts are kept
abbrev pub ShowsPart : KeptActs → List FirstWaking → Windows → KeptActs → Type 0
ShowsPart old firsts windows new = (events own : List Traced) (before acts : List (Pos × Act)) (told : List Dispatch) (showed : List Showing) → Tells old.tasks before told → HasShown old events before → firsts ≡ first_wakings acts → Keeps windows own showed
    → Keeps new.windows (own ++ events) ((showings before ++ showed) ++ flat_map (shown_by (λ pid. runnable_since pid before)) firsts) × (new.shown.showings.items ≡ [])
    × (new.shown.firsts.items ≡ first_wakings before ++ flat_map (first_by (λ pid. runnable_since pid before)) firsts)

-- what the acts of a part show, if all come after a stamp and those before it don't, has been given to the windows behind what those before it show
abbrev pub ShowsBoth : List ℕ → KeptActs → KeptActs → KeptActs → Type 0
ShowsBoth counts old part new = (stamp : ℕ) (events own : List Traced) (before acts : List (Pos × Act)) (told : List Dispatch) → Tells old.tasks before told → HasShown old events before → HasShown part own acts
    → AreUpTo stamp before → AreAfter stamp acts → AllByRecursion (HasNumber counts) acts → HasShown new (own ++ events) (list_map (act_behind (place_behind counts)) acts ++ before)

-- what is left out of both
abbrev pub left_out_with : LeftOut → LeftOut → LeftOut
left_out_with before part = record { without = before.without; events = min (before.events + part.events) most_counted; left_out = min (before.left_out + part.left_out) most_counted }

-- events of a part that come after the last stamp before it: all have a number behind, and there can be their CPUs
pub record Meets (before part : List Traced) : Type 0 where
  pub fits : length part + length before ≤ number_limit
  pub cpus : AllByRecursion (λ event. event.cpu ≤ last_cpu) part
  pub later : AllByRecursion (λ event. latest before < event.stamp) part
  pub rises : (first : ℕ) → first_stamp part ≡ Some first → AllByRecursion (λ event. first ≤ event.stamp) part

-- dispatches of a part behind events before it
abbrev pub told_behind : List ℕ → List Without → List Traced → List Dispatch → List Dispatch
told_behind counts without before told = joined_behind (place_behind counts) (reverse (in_order (acts_of without before))) told

-- the state after both, if nothing is summed up: what was told, what the part told, and what this added, with the dispatches that are given, one of each task at least
abbrev pub JoinsStates : State → State → List Dispatch → List Dispatch → State → List Dispatch → List Dispatch → Type 0
JoinsStates old part out ones new out_now ones_now = (before own : List Traced) (told apart : List Dispatch) → Follows old before (told ++ out) → Follows part own apart
    → left_out_by old.left_out.items ≡ left_out_by part.left_out.items → old.sums ≡ None → Meets before own → AreOfTasks apart ones
    → Follows new (own ++ before) ((told ++ out_now) ++ told_behind old.lines.items (left_out_by old.left_out.items) before apart)
    × (ones_now ≡ told_behind old.lines.items (left_out_by old.left_out.items) before ones) × (left_out_by new.left_out.items ≡ left_out_by old.left_out.items)
    × (is_some new.sums ≡ is_some old.sums)

-- what is missing in both, behind notes of which so many events are counted
abbrev pub JoinsMisses : State → State → State → Type 0
JoinsMisses old part new = (before own : List Note) → CountsEvents old.lines.items (passed before) → part.first ≡ first_stamp (passed own) → Misses old before → Misses part own
    → length (passed own) + length (passed before) ≤ number_limit → AllByRecursion IsOnCpu own → Misses new (own ++ before)
