-- How a run of a script ends, by the bytes that its reader and its writer tell. All of it is our own choice.
use Rattle.std.specs.Prelude.{◌≡◌, ◌≢◌, ◌≤◌, ◌⊎◌, ℕ, Bool, true, false, List, [], ◌∷◌, ◌++◌, length, Option, IfSome, Result, Ok, Err}
use Rattle.std.specs.Io.{StartsWith}
use Rattle.std.specs.Io.KnownBytes.{Appends, Consumes, IsAtEnd}
use Rattle.ft_desk.specs.declared.running.Status.{Status}
use Rattle.ft_desk.specs.declared.running.Status.TheVariants.{AllAccepted, SomeRefused}
use Rattle.ft_desk.specs.declared.running.RunFault.{RunFault}
use Rattle.ft_desk.specs.declared.running.RunFault.TheVariants as faults
use Rattle.ft_text.specs.Lines.{lines_of, ended_lines}
use Rattle.ft_script.specs.Script.{asked_by}
use Rattle.ft_desk.specs.Output.{Meaning, output_by, output_of_lines}

-- how often a reader is asked at most
abbrev pub asking_limit : ℕ
asking_limit = 1073741824

-- the status: whether some command was refused
abbrev pub status_of : Bool → Status
status_of true = SomeRefused
status_of false = AllAccepted

-- this was read, and its lines that byte 10 ended are no more than the turns that a reader has
abbrev pub ReadsBytes : Option (List ℕ) → Option (List ℕ) → List ℕ → Type 0
ReadsBytes reader rest read = Consumes reader rest read × (length (ended_lines read) ≤ asking_limit)

-- this script was read to its end: the reader's, or some script if the reader tells nothing
abbrev pub ReadsToEnd : Option (List ℕ) → Option (List ℕ) → List ℕ → Type 0
ReadsToEnd reader rest script = ReadsBytes reader rest script × IfSome reader (λ _. IsAtEnd rest)

-- this beginning of a script was read, and more is left
abbrev pub ReadsFront : Option (List ℕ) → Option (List ℕ) → List ℕ → Type 0
ReadsFront reader rest read = ReadsBytes reader rest read × IfSome reader (λ _. IsAtEnd rest → ⊥)

-- these lines were read, then this one, and nothing after it: a byte 10 or the script's end ended it
abbrev pub ReadsTo : Option (List ℕ) → Option (List ℕ) → List (List ℕ) → List ℕ → Type 0
ReadsTo reader rest lines last = (read : List ℕ) × ((ReadsBytes reader rest (read ++ 10 ∷ []) × (ended_lines (read ++ 10 ∷ []) ≡ lines ++ last ∷ [])) ⊎ (ReadsToEnd reader rest read × (lines_of read ≡ lines ++ last ∷ [])))

-- the done bytes were written, and after them a beginning of the text, of which something is left
abbrev pub BreaksOff : Option (List ℕ) → Option (List ℕ) → List ℕ → List ℕ → Type 0
BreaksOff before after done text = (front : List ℕ) × (left : List ℕ) × Appends before after (done ++ front) × (text ≡ front ++ left) × (left ≢ [])

-- the script was read to its end, its whole output written, and its status told
abbrev pub EndsWhole : Meaning → Status → Option (List ℕ) → Option (List ℕ) → Option (List ℕ) → Option (List ℕ) → Type 0
EndsWhole means status reader rest before after = (script : List ℕ) × ReadsToEnd reader rest script × Appends before after (output_by means script).text × (status ≡ status_of (output_by means script).refused)

-- the last line that was read found no memory for its command: the whole output of the lines before it is written
abbrev pub EndsAtCommand : Meaning → Option (List ℕ) → Option (List ℕ) → Option (List ℕ) → Option (List ℕ) → Type 0
EndsAtCommand means reader rest before after = (lines : List (List ℕ)) × (last : List ℕ) × ReadsTo reader rest lines last × Appends before after (output_of_lines means lines).text

-- there was no memory for bytes that are left: the whole output of the lines that had ended is written
abbrev pub EndsInLine : Meaning → Option (List ℕ) → Option (List ℕ) → Option (List ℕ) → Option (List ℕ) → Type 0
EndsInLine means reader rest before after = (read : List ℕ) × ReadsFront reader rest read × Appends before after (output_of_lines means (ended_lines read)).text

-- the reader failed, or was asked too often: the whole output of the lines that had ended is written
abbrev pub EndsAtReader : Meaning → Option (List ℕ) → Option (List ℕ) → Option (List ℕ) → Option (List ℕ) → Type 0
EndsAtReader means reader rest before after = (read : List ℕ) × ReadsBytes reader rest read × Appends before after (output_of_lines means (ended_lines read)).text

-- what a line prints, after lines that are done
abbrev pub text_behind : Meaning → List (List ℕ) → List ℕ → List ℕ
text_behind means lines line = (means (output_of_lines means lines).base (asked_by line)).text

-- the writer failed at the last line that was read: the whole output of the lines before it is written, and a beginning of its own
abbrev pub EndsAtWriter : Meaning → Option (List ℕ) → Option (List ℕ) → Option (List ℕ) → Option (List ℕ) → Type 0
EndsAtWriter means reader rest before after = (lines : List (List ℕ)) × (last : List ℕ) × ReadsTo reader rest lines last × BreaksOff before after (output_of_lines means lines).text (text_behind means lines last)

-- the flush failed: the script was read to its end, and its whole output written
abbrev pub EndsAtFlush : Meaning → Option (List ℕ) → Option (List ℕ) → Option (List ℕ) → Option (List ℕ) → Type 0
EndsAtFlush means reader rest before after = (script : List ℕ) × ReadsToEnd reader rest script × Appends before after (output_by means script).text

-- what was read and written, by how the run ended
abbrev pub RunEnds : Meaning → Result Status RunFault → Option (List ℕ) → Option (List ℕ) → Option (List ℕ) → Option (List ℕ) → Type 0
RunEnds means (Ok status) reader rest before after = EndsWhole means status reader rest before after
RunEnds means (Err faults.Memory) reader rest before after = EndsAtCommand means reader rest before after ⊎ EndsInLine means reader rest before after
RunEnds means (Err faults.Read) reader rest before after = EndsAtReader means reader rest before after
RunEnds means (Err faults.Write) reader rest before after = EndsAtWriter means reader rest before after ⊎ EndsAtFlush means reader rest before after

-- all lines of what was read are these: those that a byte 10 ended, and at the script's end a last one without
abbrev pub ReadsLines : Option (List ℕ) → Option (List ℕ) → List (List ℕ) → Type 0
ReadsLines reader rest lines = (read : List ℕ) × ((ReadsBytes reader rest read × (lines ≡ ended_lines read)) ⊎ (ReadsToEnd reader rest read × (lines ≡ lines_of read)))

-- a beginning of the text was written
abbrev pub WritesFront : Option (List ℕ) → Option (List ℕ) → List ℕ → Type 0
WritesFront before after text = (written : List ℕ) × Appends before after written × StartsWith text written

-- a beginning of the output of the lines that were read was written
abbrev pub WritesInOrder : Meaning → Option (List ℕ) → Option (List ℕ) → Option (List ℕ) → Option (List ℕ) → Type 0
WritesInOrder means reader rest before after = (lines : List (List ℕ)) × ReadsLines reader rest lines × WritesFront before after (output_of_lines means lines).text
