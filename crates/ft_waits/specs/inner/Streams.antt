-- What a stream has read of a text.
use Rattle.std.specs.Prelude.{◌≡◌, ◌==◌, false, ℕ, List, ◌∷◌, ◌++◌, reverse, take, None, is_some, Result, Ok}
use Rattle.std.specs.List.{list_any}
use Rattle.ft_event.specs.declared.fault.Line.{Line}
use Rattle.ft_event.specs.declared.fault.Line.TheVariants as lines
use Rattle.ft_event.specs.declared.fault.LineFault.{LineFault}
use Rattle.ft_event.specs.Line.{line_of}
use Rattle.ft_fields.specs.Traced.{Traced}
use Rattle.ft_losses.specs.Notes.{Note, NoteIs, AreNotes}
use Rattle.ft_losses.specs.Telling.{Keeps}
use Rattle.ft_text.specs.Lines.{lines_of}
use Rattle.ft_waits.specs.Choice.{Choice}
use Rattle.ft_waits.specs.Reading.{events_of, history, lines_read, refused, FailsAt, Fails}
use Rattle.ft_waits.specs.inner.Known.{Follows, Misses, left_out_by}
use Rattle.ft_dispatch.specs.declared.dispatch.Dispatch.{Dispatch}
use Rattle.ft_waits.specs.declared.fault.WaitsFault.{WaitsFault}
use Rattle.ft_waits.specs.declared.reading.Reading.{Reading}

-- none of these lines was refused, and this was read of them, newest first
pub record ReadsLines (reading : Reading) (lines : List (List ℕ)) (told : List Dispatch) : Type 0 where
  pub unrefused : refused reading.bad_lines lines ≡ None
  pub read : reading.read ≡ lines_read lines
  pub notes : List Note
  pub noted : AreNotes lines notes
  pub losses : Keeps reading.losses notes
  pub misses : Misses reading.state notes
  pub state : Follows reading.state (events_of lines) told

-- a line reads as another one does, and is the same line if the other one is skipped
abbrev pub IsLike : List ℕ → List ℕ → Type 0
IsLike other line = (line_of line ≡ line_of other) × ((line_of other ≡ Ok lines.Skip) → line ≡ other)

-- a line like this is read after whatever lines
abbrev pub TakesLine : List ℕ → Reading → List Dispatch → Reading → List Dispatch → Type 0
TakesLine other old out new out_now = (line : List ℕ) (before : List (List ℕ)) (told : List Dispatch) → IsLike other line → ReadsLines old before (told ++ out) → ReadsLines new (line ∷ before) (told ++ out_now)

-- a line with this event is read after whatever lines
abbrev pub TakesEvent : Traced → Reading → List Dispatch → Reading → List Dispatch → Type 0
TakesEvent event old out new out_now = (line : List ℕ) (before : List (List ℕ)) (told : List Dispatch) → line_of line ≡ Ok (lines.Event event) → ReadsLines old before (told ++ out) → ReadsLines new (line ∷ before) (told ++ out_now)

-- a line without an event, which gives and reports this, is read after whatever lines, and adds no dispatch
abbrev pub TakesQuietly : Result Line LineFault → Note → Reading → Reading → Type 0
TakesQuietly given note old new = (line : List ℕ) (before : List (List ℕ)) (told : List Dispatch) → line_of line ≡ given → NoteIs line note → ReadsLines old before told → ReadsLines new (line ∷ before) told

-- a line that gives this ends the reading after whatever lines
abbrev pub FailsLine : Result Line LineFault → Reading → WaitsFault → Type 0
FailsLine given old fault = (line : List ℕ) (before : List (List ℕ)) (told : List Dispatch) → line_of line ≡ given → ReadsLines old before told → FailsAt old.bad_lines (line ∷ before) fault

-- these lines of a text have ended, newest first, and this is the rest, whatever comes after it
abbrev pub Cuts : List ℕ → List (List ℕ) → List ℕ → Type 0
Cuts text lines rest = (later : List ℕ) → lines_of (text ++ later) ≡ reverse lines ++ lines_of (rest ++ later)

-- what the stream keeps of a line that has not ended: one byte more than a line may have, so that a longer line is seen to be one
abbrev pub room : ℕ
room = 4097

-- how a reading reads
abbrev pub choice_of : Reading → Choice
choice_of reading = record { bad_lines = reading.bad_lines; without = left_out_by reading.state.left_out.items; sums = is_some reading.state.sums }

-- the lines of a text that have ended were read, and the rest is kept
pub record Reads (choice : Choice) (reading : Reading) (unended : List ℕ) (text : List ℕ) (told : List Dispatch) : Type 0 where
  pub by_choice : choice_of reading ≡ choice
  pub lines : List (List ℕ)
  pub rest : List ℕ
  pub cuts : Cuts text lines rest
  pub unbroken : list_any (λ b. b == 10) rest ≡ false
  pub kept : unended ≡ take room rest
  pub reads : ReadsLines reading lines told

-- all lines of a text were read
pub record EndsLines (choice : Choice) (reading : Reading) (text : List ℕ) (told : List Dispatch) : Type 0 where
  pub by_choice : choice_of reading ≡ choice
  pub reads : ReadsLines reading (history text) told

-- more of a text is read: of its lines, some end in this part
abbrev pub ReadsOn : Reading → List Dispatch → List ℕ → Reading → List Dispatch → List ℕ → Type 0
ReadsOn old out part new out_now rest = (text : List ℕ) (lines : List (List ℕ)) (told : List Dispatch) → Cuts text lines part → ReadsLines old lines (told ++ out) →
    (more : List (List ℕ)) × Cuts text more rest × ReadsLines new more (told ++ out_now)

-- in this part a line is refused, or something else ends the reading
abbrev pub FailsIn : Reading → List Dispatch → List ℕ → WaitsFault → Type 0
FailsIn old out part fault = (text : List ℕ) (lines : List (List ℕ)) (told : List Dispatch) → Cuts text lines part → ReadsLines old lines (told ++ out) → Fails old.bad_lines text fault
