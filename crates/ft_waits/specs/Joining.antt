-- A part that was read apart, behind the text before it.
use Rattle.std.specs.Prelude.{◌≡◌, ◌≢◌, ◌<◌, ◌≤◌, ◌+◌, ℕ, true, false, List, [], ◌++◌, length, reverse, Some, None}
use Rattle.ft_dispatch.specs.Joining.{place_behind, joined_behind, AreOfTasks}
use Rattle.ft_dispatch.specs.declared.dispatch.Dispatch.{Dispatch}
use Rattle.ft_losses.specs.Joining.{any_lost}
use Rattle.ft_losses.specs.Notes.{Note}
use Rattle.ft_losses.specs.Telling.{Keeps}
use Rattle.ft_waits.specs.Choice.{Choice}
use Rattle.ft_waits.specs.Reading.{acts_of, events_of, history_so_far, in_order, number_limit}
use Rattle.ft_waits.specs.Streams.{HasRead, counts_kept}
use Rattle.ft_waits.specs.declared.reading.Reading.{Reading}
use Rattle.ft_waits.specs.declared.seam.JoinFault.{JoinFault}
use Rattle.ft_waits.specs.declared.seam.JoinFault.TheVariants as faults
use Rattle.ft_waits.specs.declared.stream.Waits.{Waits}

-- what was read before a part and what was read of the part fit at the seam: they leave out the same number of kinds of events, neither sums up its tasks and CPUs, together they have no more lines than there are numbers, the part's first event, if it has one, comes after the last stamp before it, and no hole has begun before it that has not ended
pub record Fit (before part : Reading) : Type 0 where
  pub size : length before.state.left_out.items ≡ length part.state.left_out.items
  pub unsummed : before.state.sums ≡ None
  pub unsummed_part : part.state.sums ≡ None
  pub fits : part.read.lines + before.read.lines ≤ number_limit
  pub later : (first : ℕ) → part.state.first ≡ Some first → before.state.latest < first
  pub whole : (notes : List Note) → Keeps before.losses notes → any_lost notes ≡ false

-- a part can be joined
pub record CanJoin (before part : Waits) : Type 0 where
  pub well : before.failed ≡ None
  pub well_part : part.failed ≡ None
  pub ended : before.unended.items ≡ []
  pub policy : before.reading.bad_lines ≡ part.reading.bad_lines
  pub fit : Fit before.reading part.reading

-- why a part can't be joined
abbrev pub CannotJoin : JoinFault → Waits → Waits → Type 0
CannotJoin faults.Failed before part = before.failed ≡ None → part.failed ≡ None → ⊥
CannotJoin faults.Unended before part = before.unended.items ≢ []
CannotJoin faults.Differs before part = before.reading.bad_lines ≡ part.reading.bad_lines → length before.reading.state.left_out.items ≡ length part.reading.state.left_out.items → ⊥
CannotJoin faults.Summed before part = before.reading.state.sums ≡ None → part.reading.state.sums ≡ None → ⊥
CannotJoin faults.TooLong before part = number_limit < part.reading.read.lines + before.reading.read.lines
CannotJoin faults.Overlaps before part = ((first : ℕ) → part.reading.state.first ≡ Some first → before.reading.state.latest < first) → ⊥
CannotJoin faults.Torn before part = (notes : List Note) → Keeps before.reading.losses notes → any_lost notes ≡ true
CannotJoin faults.Memory before part = ⊥

-- dispatches of a part behind a text, of which so many events of each CPU were read
abbrev pub behind_text : List ℕ → Choice → List ℕ → List Dispatch → List Dispatch
behind_text counts choice text told = joined_behind (place_behind counts) (reverse (in_order (acts_of choice.without (events_of (history_so_far text))))) told

-- both texts were read: what was told before, what the part told, and what this added; the dispatches that are given, one of each task at least, are completed
abbrev pub JoinsTexts : Waits → Waits → List Dispatch → List Dispatch → Waits → List Dispatch → List Dispatch → Type 0
JoinsTexts old part out ones new out_now ones_now = (choice : Choice) (text own : List ℕ) (told apart : List Dispatch) → HasRead choice old text (told ++ out) → HasRead choice part own apart → AreOfTasks apart ones
    → HasRead choice new (text ++ own) ((told ++ out_now) ++ behind_text (counts_kept old) choice text apart) × (ones_now ≡ behind_text (counts_kept old) choice text ones)
