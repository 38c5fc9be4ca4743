-- What a map of tasks tells after acts: since when each task is runnable, and the dispatches so far.
use Rattle.std.specs.Prelude.{◌≡◌, ℤ, pos, false, List, ◌++◌, reverse, Option, Some, None, map as list_map}
use Rattle.std.specs.List.{flat_map}
use Rattle.std.specs.Ordering.{int_eq}
use Rattle.ft_pids.specs.Entries.{entry_in}
use Rattle.ft_pids.specs.Numbers.{number_of}
use Rattle.ft_fields.specs.declared.pos.Pos.{Pos}
use Rattle.ft_dispatch.specs.Acts.{Act, Waking, Creation, Wakeup, Switch, Handover}
use Rattle.ft_dispatch.specs.Dispatches.{runnable_since, dispatches}
use Rattle.ft_dispatch.specs.Showings.{showings, first_wakings, shown_by, first_by}
use Rattle.ft_dispatch.specs.declared.act.Kind.{Kind}
use Rattle.ft_dispatch.specs.declared.act.Kind.TheVariants as kinds
use Rattle.ft_dispatch.specs.declared.act.PlacedAct.{PlacedAct}
use Rattle.ft_dispatch.specs.declared.dispatch.Dispatch.{Dispatch}
use Rattle.ft_dispatch.specs.declared.dispatch.Since.{Since}
use Rattle.ft_dispatch.specs.declared.showing.FirstWaking.{FirstWaking}
use Rattle.ft_dispatch.specs.declared.showing.Showing.{Showing}
use Rattle.ft_dispatch.specs.declared.showing.Shown.{Shown}
use Rattle.ft_dispatch.specs.declared.tasks.Entry.{Entry}
use Rattle.ft_dispatch.specs.declared.tasks.Known.{Known}
use Rattle.ft_dispatch.specs.declared.tasks.Tasks.{Tasks}

-- ---- tasks

-- nothing made the task runnable
abbrev pub unknown : Since
unknown = record { woken = None; created = None; left = None; seen = None; roused = None }

-- the task of an entry
abbrev pub task_of : Entry → ℤ
task_of entry = entry.pid

-- what the entry of a task says of it; nothing, if there is none
abbrev pub said : Option Entry → Since
said None = unknown
said (Some entry) = entry.since

-- what is known of a task
abbrev pub known : Known → ℤ → Since
known tasks pid = said (entry_in task_of (number_of tasks.numbers) tasks.entries.items pid)

-- ---- acts at their places

-- what a switch says
abbrev pub handover_of : PlacedAct → Handover
handover_of act = record { by = act.by; prev_pid = act.prev_pid; prev_state = act.prev_state; next_pid = act.pid; next_prio = act.prio; next_comm = act.name }

-- what an act says, by its kind
abbrev pub act_from : Kind → PlacedAct → Act
act_from kinds.Waking act = Waking act.by act.pid
act_from kinds.Creation act = Creation act.by act.pid
act_from kinds.Wakeup act = Wakeup act.by act.pid
act_from kinds.Switch act = Switch (handover_of act)

-- an act at its place
abbrev pub entry_of : PlacedAct → Pos × Act
entry_of act = (act.place, act_from act.kind act)

abbrev pub entries_of : List PlacedAct → List (Pos × Act)
entries_of acts = list_map entry_of acts

-- ---- after acts

-- what is known of each task, except task 0, which waits for nothing, is what these acts say, newest first, and their dispatches are told
pub record Tells (tasks : Tasks) (before : List (Pos × Act)) (told : List Dispatch) : Type 0 where
  pub knows : (pid : ℤ) → int_eq pid (pos 0) ≡ false → known tasks.since pid ≡ runnable_since pid before
  pub tells : told ≡ dispatches before

-- after whatever acts, these follow in order
abbrev pub TakesAll : List (Pos × Act) → Tasks → List Dispatch → Tasks → List Dispatch → Type 0
TakesAll acts old out new out_now = (before : List (Pos × Act)) (told : List Dispatch) → Tells old before (told ++ out) → Tells new (reverse acts ++ before) (told ++ out_now)

-- what acts show has been given and is shown, and their first wakings are told
pub record Shows (given : List Showing) (shown : Shown) (acts : List (Pos × Act)) : Type 0 where
  pub showings : given ++ shown.showings.items ≡ showings acts
  pub firsts : shown.firsts.items ≡ first_wakings acts

-- after whatever acts, what these show is added
abbrev pub ShowsAll : List (Pos × Act) → Tasks → List Dispatch → Shown → Shown → Type 0
ShowsAll acts old out shown shown_now = (before : List (Pos × Act)) (told : List Dispatch) (given : List Showing) → Tells old before (told ++ out) → Shows given shown before → Shows given shown_now (reverse acts ++ before)

-- after whatever acts, what the first wakings of a part show is added, and those that are first wakings of all acts
abbrev pub ShowsFirsts : Tasks → List FirstWaking → Shown → Shown → Type 0
ShowsFirsts tasks firsts shown shown_now = (before part : List (Pos × Act)) (told : List Dispatch) → Tells tasks before told → firsts ≡ first_wakings part →
    (shown_now.showings.items ≡ shown.showings.items ++ flat_map (shown_by (λ pid. runnable_since pid before)) firsts)
    × (shown_now.firsts.items ≡ shown.firsts.items ++ flat_map (first_by (λ pid. runnable_since pid before)) firsts)
