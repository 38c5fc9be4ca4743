-- What the code keeps of the events so far.
use Rattle.std.specs.Prelude.{◌≡◌, ◌≤◌, ◌<◌, ◌+◌, ◌⊎◌, ℕ, Bool, List, [], ◌++◌, length, reverse, map, Option, is_some, IfSome, IsPermutation, if◌then◌else◌}
use Rattle.std.specs.List.{AllByRecursion, IsDistinct}
use Rattle.std.specs.List.Sorted.{IsSortedByKey, IsStrictlySortedBy}
use Rattle.std.specs.Map.{keys_of}
use Rattle.std.specs.Ordering.{eq_by_cmp}
use Rattle.ft_fields.specs.Places.{pos_cmp}
use Rattle.ft_fields.specs.Traced.{Traced}
use Rattle.ft_fields.specs.declared.pos.Pos.{Pos}
use Rattle.ft_dispatch.specs.Acts.{Act}
use Rattle.ft_dispatch.specs.Showings.{showings, first_wakings}
use Rattle.ft_dispatch.specs.Telling.{entries_of, Tells, TakesAll}
use Rattle.ft_dispatch.specs.declared.act.PlacedAct.{PlacedAct}
use Rattle.ft_dispatch.specs.declared.dispatch.Dispatch.{Dispatch}
use Rattle.ft_losses.specs.Notes.{Note}
use Rattle.ft_summary.specs.Telling.{Tells as Sums}
use Rattle.ft_summary.specs.declared.summary.Summary.{Summary}
use Rattle.ft_windows.specs.Telling.{Keeps}
use Rattle.ft_waits.specs.Reading.{acts_of, first_stamp, latest, number_limit, CountsEvents}
use Rattle.ft_waits.specs.LeftOut.{has_name, leaves_out, left_out_of}
use Rattle.ft_waits.specs.Missing.{missing_in}
use Rattle.ft_waits.specs.inner.Running.{RunsTasks}
use Rattle.ft_waits.specs.inner.Starts.{starts_of}
use Rattle.ft_waits.specs.declared.kept.KeptActs.{KeptActs}
use Rattle.ft_waits.specs.declared.left_out.LeftOut.{LeftOut}
use Rattle.ft_waits.specs.declared.left_out.Without.{Without}
use Rattle.ft_waits.specs.declared.state.State.{State}

-- ---- what acts sum up to

-- a summary tells acts, if there is one
abbrev pub SumsTell : Option Summary → List (Pos × Act) → Type 0
SumsTell sums acts = IfSome sums (λ summary. Sums summary acts)

-- it takes acts that follow, if there is one
pub record SumsTake (acts : List (Pos × Act)) (old new : Option Summary) : Type 0 where
  pub wanted : is_some new ≡ is_some old
  pub takes : (before : List (Pos × Act)) → SumsTell old before → SumsTell new (reverse acts ++ before)

-- ---- what acts show

-- what acts show has been given to the windows, which know all events, and their first wakings are kept
pub record HasShown (kept : KeptActs) (events : List Traced) (acts : List (Pos × Act)) : Type 0 where
  pub windows : Keeps kept.windows events (showings acts)
  pub given : kept.shown.showings.items ≡ []
  pub firsts : kept.shown.firsts.items ≡ first_wakings acts

-- ---- acts that are held

-- held acts follow in the order of their places
pub record Settles (old : KeptActs) (summary : Option Summary) (out : List Dispatch) (new : KeptActs) (summary_now : Option Summary) (out_now : List Dispatch) : Type 0 where
  pub ordered : List PlacedAct
  pub moved : IsPermutation old.held.items ordered
  pub sorted : IsSortedByKey (λ one. one.place) pos_cmp ordered
  pub takes : TakesAll (entries_of ordered) old.tasks out new.tasks out_now
  pub shows : (events : List Traced) (before : List (Pos × Act)) (told : List Dispatch) → Tells old.tasks before (told ++ out) → HasShown old events before → HasShown new events (reverse (entries_of ordered) ++ before)
  pub sums : SumsTake (entries_of ordered) summary summary_now
  pub none : new.held.items ≡ []

-- ---- after events

-- so many events that a CPU may have no number left
abbrev pub IsNumbered : List Traced → Type 0
IsNumbered before = number_limit ≤ length before

-- acts in order, of which those before a stamp are done and those at it are held; and all events
pub record Orders (kept : KeptActs) (summary : Option Summary) (stamp : ℕ) (events : List Traced) (acts : List (Pos × Act)) (told : List Dispatch) : Type 0 where
  pub done : List (Pos × Act)
  pub sorted : IsStrictlySortedBy pos_cmp (keys_of done)
  pub earlier : AllByRecursion (λ entry. entry.0.stamp < stamp) done
  pub now : AllByRecursion (λ entry. entry.0.stamp ≡ stamp) (entries_of kept.held.items)
  pub all : IsPermutation acts (done ++ entries_of kept.held.items)
  pub distinct : IsDistinct (eq_by_cmp pos_cmp) (keys_of acts)
  pub tells : Tells kept.tasks (reverse done) told
  pub shows : HasShown kept events (reverse done)
  pub sums : SumsTell summary (reverse done)

-- what is left out by these counts
abbrev pub left_out_by : List LeftOut → List Without
left_out_by counts = map (λ count. count.without) counts

-- the largest count
abbrev pub most_counted : ℕ
most_counted = 18446744073709551615

-- a count that is one more, if it is to be
abbrev pub more_if : Bool → ℕ → ℕ
more_if more count = if more then count + 1 else count

-- the counts with one event more
abbrev pub with_event : Traced → LeftOut → LeftOut
with_event event count = record { without = count.without; events = more_if (has_name count.without event) count.events; left_out = more_if (leaves_out count.without event) count.left_out }

-- one of the two can't be more
abbrev pub IsFull : LeftOut → Type 0
IsFull count = (count.events ≡ most_counted) ⊎ (count.left_out ≡ most_counted)

-- the state after these events, newest first
pub record Follows (state : State) (events : List Traced) (told : List Dispatch) : Type 0 where
  pub counts : CountsEvents state.lines.items events
  pub first : state.first ≡ first_stamp events
  pub last : state.latest ≡ latest events
  pub left_out : state.left_out.items ≡ map (left_out_of events) (left_out_by state.left_out.items)
  pub orders : Orders state.acts state.sums state.latest events (acts_of (left_out_by state.left_out.items) events) told

-- what the state says of switches that are missing, after these notes, newest first
pub record Misses (state : State) (notes : List Note) : Type 0 where
  pub runs : RunsTasks state.running.items notes
  pub missing : state.missing ≡ missing_in notes
  pub starts : state.starts.items ≡ reverse (starts_of notes)
