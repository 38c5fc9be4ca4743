-- What the lines of a text report of a CPU's events: that there was one, or that some were lost. Notes stand newest first, one for each line.
use Rattle.std.specs.Prelude.{◌≡◌, ℕ, List, [], ◌∷◌, Option, Some, None, Result, Ok, Err}
use Rattle.ft_event.specs.Line.{line_of}
use Rattle.ft_event.specs.Marks.{MarkIs}
use Rattle.ft_event.specs.declared.fault.Line.{Line}
use Rattle.ft_event.specs.declared.fault.Line.TheVariants as lines
use Rattle.ft_event.specs.declared.fault.LineFault.{LineFault}
use Rattle.ft_event.specs.declared.mark.Mark.{Mark}
use Rattle.ft_fields.specs.Traced.{Traced}

-- an event, a mark of lost events, or neither
pub data Note : Type 0 where
  Passed : Traced → Note
  Marked : Mark → Note
  Silent : Note

-- what a mark reports, if a line without an event is one
abbrev pub quiet_note : Option Mark → Note
quiet_note None = Silent
quiet_note (Some mark) = Marked mark

-- what a line that is skipped reports
abbrev pub SkippedIs : List ℕ → Note → Type 0
SkippedIs line (Passed event) = ⊥
SkippedIs line (Marked mark) = MarkIs line mark
SkippedIs line Silent = (mark : Mark) → MarkIs line mark → ⊥

-- what a line reports, by how it reads: one that can't be read reports nothing
abbrev pub NoteBy : Result Line LineFault → List ℕ → Note → Type 0
NoteBy (Ok (lines.Event event)) line note = note ≡ Passed event
NoteBy (Ok lines.Skip) line note = SkippedIs line note
NoteBy (Err fault) line note = note ≡ Silent

-- what a line reports
abbrev pub NoteIs : List ℕ → Note → Type 0
NoteIs line note = NoteBy (line_of line) line note

-- what each of the lines reports
abbrev pub AreNotes : List (List ℕ) → List Note → Type 0
AreNotes [] notes = notes ≡ []
AreNotes (line ∷ before) [] = ⊥
AreNotes (line ∷ before) (note ∷ notes) = NoteIs line note × AreNotes before notes
