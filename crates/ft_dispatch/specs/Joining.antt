-- Acts that were read apart from the acts before them: what is known, and the dispatches, behind those. Acts and dispatches stand newest first, if nothing else is said.
use Rattle.std.specs.Prelude.{◌≡◌, ◌≤◌, ◌<◌, ℕ, ℤ, ◌+◌, min, Bool, Option, List, [], ◌∷◌, ◌++◌, reverse, slice_index, map as list_map, option_map, if◌then◌else◌}
use Rattle.std.specs.List.{AllByRecursion, list_any}
use Rattle.std.specs.Option.{option_or, is_some}
use Rattle.std.specs.Ordering.{int_eq}
use Rattle.ft_fields.specs.Places.{pos_cmp}
use Rattle.ft_fields.specs.declared.pos.Pos.{Pos}
use Rattle.ft_dispatch.specs.Acts.{Act}
use Rattle.ft_dispatch.specs.Dispatches.{runs, runnable_since}
use Rattle.ft_dispatch.specs.Showings.{is_unsaid, ready_since}
use Rattle.ft_dispatch.specs.Telling.{unknown, Tells}
use Rattle.ft_dispatch.specs.declared.dispatch.Dispatch.{Dispatch}
use Rattle.ft_dispatch.specs.declared.dispatch.Left.{Left}
use Rattle.ft_dispatch.specs.declared.dispatch.Since.{Since}
use Rattle.ft_dispatch.specs.declared.tasks.Tasks.{Tasks}

-- ---- places

-- a place of a part whose lines were counted from the part's own start, behind so many events of each CPU; a line is at most the largest number
abbrev pub place_behind : List ℕ → Pos → Pos
place_behind counts place = record { stamp = place.stamp; cpu = place.cpu; line = min (place.line + slice_index counts place.cpu) 4294967295 }

-- an act, where a task was left, since when it was runnable, and a dispatch, each at its places behind
abbrev pub act_behind : (Pos → Pos) → Pos × Act → Pos × Act
act_behind move entry = (move entry.0, entry.1)

abbrev pub left_behind : (Pos → Pos) → Left → Left
left_behind move left = record { place = move left.place; runnable = left.runnable; queued = left.queued }

abbrev pub since_behind : (Pos → Pos) → Since → Since
since_behind move since = record { woken = option_map move since.woken; created = option_map move since.created; left = option_map (left_behind move) since.left; seen = option_map move since.seen; roused = option_map move since.roused }

abbrev pub dispatch_behind : (Pos → Pos) → Dispatch → Dispatch
dispatch_behind move one = record { pid = one.pid; prio = one.prio; name = one.name; place = move one.place; since = since_behind move one.since }

-- ---- what is known

-- whether an act of a part ran a task
abbrev pub ran : ℤ → List (Pos × Act) → Bool
ran pid part = list_any (λ entry. runs pid entry.1) part

-- each place from what a part says, if it says one, else from what was known before; the first end of the last waking is the part's, if the waking is
abbrev pub over : Since → Since → Since
over part before = record {
  woken = option_or part.woken before.woken;
  created = option_or part.created before.created;
  left = option_or part.left before.left;
  seen = option_or part.seen before.seen;
  roused = if is_some part.woken then part.roused else option_or before.roused part.roused;
}

-- what is known of a task behind a part, by whether the part ran it: a task that ran has only what the part says since then
abbrev pub known_behind : Bool → Since → Since → Since
known_behind has_run part before = if has_run then part else over part before

-- ---- dispatches

-- whether dispatches have one of a task
abbrev pub has_one : ℤ → List Dispatch → Bool
has_one pid told = list_any (λ one. int_eq one.pid pid) told

-- a dispatch of a part by what was known of its task before the part
abbrev pub completed_by : Since → Dispatch → Dispatch
completed_by before one = record { pid = one.pid; prio = one.prio; name = one.name; place = one.place; since = over one.since before }

-- a dispatch of a part behind earlier ones of the part: the first one of its task is completed, any other stays
abbrev pub completed : (ℤ → Since) → List Dispatch → Dispatch → Dispatch
completed known earlier one = if has_one one.pid earlier then one else completed_by (known one.pid) one

-- the dispatches of a part by what was known of each task before the part
unfoldable pub all_completed : (ℤ → Since) → List Dispatch → List Dispatch
all_completed known [] = []
all_completed known (one ∷ earlier) = completed known earlier one ∷ all_completed known earlier

-- the same, the oldest first
abbrev pub joined : (ℤ → Since) → List Dispatch → List Dispatch
joined known told = reverse (all_completed known (reverse told))

-- the dispatches of a part whose places lie behind, by the acts before the part
abbrev pub joined_behind : (Pos → Pos) → List (Pos × Act) → List Dispatch → List Dispatch
joined_behind move before told = joined (λ pid. runnable_since pid before) (list_map (dispatch_behind move) told)

-- the first dispatch of each task
unfoldable pub first_ones : List Dispatch → List Dispatch
first_ones [] = []
first_ones (one ∷ earlier) = if has_one one.pid earlier then first_ones earlier else one ∷ first_ones earlier

-- the same, the oldest first
abbrev pub firsts : List Dispatch → List Dispatch
firsts told = reverse (first_ones (reverse told))

-- the dispatches that are not the first one of their task
unfoldable pub other_ones : List Dispatch → List Dispatch
other_ones [] = []
other_ones (one ∷ earlier) = if has_one one.pid earlier then one ∷ other_ones earlier else other_ones earlier

-- the same, the oldest first
abbrev pub others : List Dispatch → List Dispatch
others told = reverse (other_ones (reverse told))

-- dispatches are of the same tasks as others
abbrev pub AreOfTasks : List Dispatch → List Dispatch → Type 0
AreOfTasks told ones = (pid : ℤ) → has_one pid ones ≡ has_one pid told

-- what is left of what was known of a task, behind dispatches, the oldest first: nothing, if it ran
abbrev pub left_over : (ℤ → Since) → List Dispatch → ℤ → Since
left_over known told pid = if has_one pid (reverse told) then unknown else known pid

-- ---- showings

-- where a task became runnable, if it was not seen to run since: what a part says of it; what was known before only if the part says nothing
abbrev pub ready_behind : Since → Since → Option Pos
ready_behind part before = if is_unsaid part then ready_since before else ready_since part

-- places that are moved keep their stamps and their order
pub record KeepsOrder (move : Pos → Pos) : Type 0 where
  pub stamps : (place : Pos) → (move place).stamp ≡ place.stamp
  pub order : (first second : Pos) → pos_cmp (move first) (move second) ≡ pos_cmp first second

-- acts up to a stamp, and acts after it
abbrev pub AreUpTo : ℕ → List (Pos × Act) → Type 0
AreUpTo stamp acts = AllByRecursion (λ entry. entry.0.stamp ≤ stamp) acts

abbrev pub AreAfter : ℕ → List (Pos × Act) → Type 0
AreAfter stamp acts = AllByRecursion (λ entry. stamp < entry.0.stamp) acts

-- ---- tasks

-- whatever acts a map of tasks tells, and whatever acts a part tells that was read apart: the new map tells the part's acts behind the acts before; of the part's dispatches those that are given, one of each task at least, are completed as among all of them
abbrev pub Joins : (Pos → Pos) → Tasks → Tasks → List Dispatch → Tasks → List Dispatch → Type 0
Joins move old part ones new behind = (before acts : List (Pos × Act)) (told apart : List Dispatch) → Tells old before told → Tells part acts apart → AreOfTasks apart ones
    → Tells new (list_map (act_behind move) acts ++ before) (told ++ joined_behind move before apart) × (behind ≡ joined_behind move before ones)
