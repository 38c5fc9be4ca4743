-- A text that comes in pieces: what was read of it so far.
use Rattle.std.specs.Prelude.{◌≡◌, ℕ, suc, List, length, map, Option, Some, None, option_map}
use Rattle.ft_fields.specs.Traced.{last_cpu}
use Rattle.ft_waits.specs.Choice.{Choice}
use Rattle.ft_waits.specs.LeftOut.{left_out_of}
use Rattle.ft_waits.specs.Reading.{history, dispatches_in, events_of, first_stamp, last_stamp, CountsEvents, lines_read, refused, Fails}
use Rattle.ft_losses.specs.Notes.{Note, AreNotes}
use Rattle.ft_dispatch.specs.Showings.{showings}
use Rattle.ft_waits.specs.Lost.{AreAllLosses}
use Rattle.ft_waits.specs.Missing.{missing_in}
use Rattle.ft_waits.specs.Summing.{acts_in, AreSumsIf}
use Rattle.ft_waits.specs.inner.Streams.{Reads}
use Rattle.ft_dispatch.specs.declared.dispatch.Dispatch.{Dispatch}
use Rattle.ft_waits.specs.declared.fault.TextRead.{TextRead}
use Rattle.ft_waits.specs.declared.fault.WaitsFault.{WaitsFault}
use Rattle.ft_waits.specs.declared.stream.Waits.{Waits}

-- by whether it failed: the text was read, and these dispatches were told; or the text is refused
abbrev pub HasReadBy : Option WaitsFault → Choice → Waits → List ℕ → List Dispatch → Type 0
HasReadBy None choice waits text told = Reads choice waits.reading waits.unended.items text told
HasReadBy (Some fault) choice waits text told = Fails choice.bad_lines text fault

-- what a stream has read
abbrev pub HasRead : Choice → Waits → List ℕ → List Dispatch → Type 0
HasRead choice waits text told = HasReadBy waits.failed choice waits text told

-- the answer to a whole text: its dispatches were told, the losses are those that its lines report, with those that its events and its acts show, and no line of it is refused
pub record AreDispatches (choice : Choice) (text : List ℕ) (told : List Dispatch) (read : TextRead) : Type 0 where
  pub dispatches : told ≡ dispatches_in choice.without text
  pub lines : read.lines ≡ lines_read (history text)
  pub first : read.first ≡ first_stamp (events_of (history text))
  pub last : read.last ≡ last_stamp (events_of (history text))
  pub events : CountsEvents read.events.items (events_of (history text))
  pub cpus : length read.events.items ≡ suc last_cpu
  pub left_out : read.left_out.items ≡ map (left_out_of (events_of (history text))) choice.without
  pub sums : AreSumsIf choice.sums (acts_in choice.without text) read.sums
  pub notes : List Note
  pub noted : AreNotes (history text) notes
  pub missing : read.missing ≡ missing_in notes
  pub losses : AreAllLosses notes (events_of (history text)) (showings (acts_in choice.without text)) read.losses
  pub unrefused : refused choice.bad_lines (history text) ≡ None

-- ---- what was read so far

-- the counts that a stream keeps
abbrev pub counts_kept : Waits → List ℕ
counts_kept waits = waits.reading.state.lines.items

-- the last stamp that a stream keeps
abbrev pub last_kept : Waits → Option ℕ
last_kept waits = option_map (λ first. waits.reading.state.latest) waits.reading.state.first
