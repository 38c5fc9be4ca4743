-- The steps of a run: what taking a part of the script and a line of it do to the bytes that are left and written, and how often a run calls its reader and its writer. All of it is our own choice.
use Rattle.std.specs.Prelude.{◌≡◌, ◌≢◌, ℕ, ◌+◌, ◌⊎◌, Bool, List, [], ◌∷◌, ◌++◌, All, take, Option, IfSome, Result, Ok, Err}
use Rattle.std.specs.Io.KnownBytes.{Keeps, Appends, Consumes, IsAtEnd}
use Rattle.ft_desk.specs.declared.pieces.Taken.{Taken}
use Rattle.ft_desk.specs.declared.pieces.Taken.TheVariants as takes
use Rattle.ft_desk.specs.declared.running.Status.{Status}
use Rattle.ft_desk.specs.declared.running.RunFault.{RunFault}
use Rattle.ft_desk.specs.declared.running.RunFault.TheVariants as faults
use Rattle.ft_answers.specs.Base.{Base}
use Rattle.ft_script.specs.Script.{line_limit}
use Rattle.ft_desk.specs.Output.{Meaning, Outcome}
use Rattle.ft_desk.specs.Counts.{Counts}
use Rattle.ft_desk.specs.Run.{asking_limit, BreaksOff, EndsWhole, EndsAtCommand, EndsInLine, EndsAtReader, EndsAtWriter, EndsAtFlush}

-- the part after the piece, of which as many bytes are kept as a command may have, and one more
abbrev pub AddsPart : List ℕ → List ℕ → List ℕ → Type 0
AddsPart before after part = All (λ byte. byte ≢ 10) part × (after ≡ take (line_limit + 1) (before ++ part))

-- what taking from the script did to the bytes left and to the piece: a part of a line was taken, which isn't empty, or one and the line's end, or the script is at its end; or the reader failed, or there was no memory for bytes that are there
abbrev pub TakingGives : Result Taken RunFault → Option (List ℕ) → Option (List ℕ) → List ℕ → List ℕ → Type 0
TakingGives (Ok takes.Part) left rest before after = (part : List ℕ) × Consumes left rest part × AddsPart before after part × (part ≢ [])
TakingGives (Ok takes.Line) left rest before after = (part : List ℕ) × Consumes left rest (part ++ 10 ∷ []) × AddsPart before after part
TakingGives (Ok takes.End) left rest before after = Keeps left rest × IsAtEnd left × (after ≡ before)
TakingGives (Err faults.Read) left rest before after = Keeps left rest
TakingGives (Err faults.Memory) left rest before after = Keeps left rest × IfSome left (λ bytes. bytes ≢ [])
TakingGives (Err faults.Write) left rest before after = ⊥

-- what a line left: its base, and its text written whole; nothing written if it found no memory; or not all of its text
abbrev pub LineGives : Outcome → Base → Option (List ℕ) → Option (List ℕ) → Result Bool RunFault → Type 0
LineGives line base before after (Ok refused) = (refused ≡ line.refused) × (base ≡ line.base) × Appends before after line.text
LineGives line base before after (Err faults.Memory) = Keeps before after
LineGives line base before after (Err faults.Write) = BreaksOff before after [] line.text
LineGives line base before after (Err faults.Read) = ⊥

-- how many failures of the reader an answer tells of
abbrev pub read_failures : {T : Type 0} → Result T RunFault → ℕ
read_failures (Ok done) = 0
read_failures (Err faults.Read) = 1
read_failures (Err faults.Memory) = 0
read_failures (Err faults.Write) = 0

-- how many failures of the writer an answer tells of
abbrev pub write_failures : {T : Type 0} → Result T RunFault → ℕ
write_failures (Ok done) = 0
write_failures (Err faults.Write) = 1
write_failures (Err faults.Memory) = 0
write_failures (Err faults.Read) = 0

-- how often the reader was asked, by how a run ended: if the answer is `Read`, it failed once, or had given no end in as many turns as it has; else it never failed
abbrev pub AsksReader : Result Status RunFault → Counts → Type 0
AsksReader (Ok status) asked = asked.failed ≡ 0
AsksReader (Err faults.Read) asked = (asked.failed ≡ 1) ⊎ ((asked.failed ≡ 0) × (asked.made ≡ asking_limit))
AsksReader (Err faults.Memory) asked = asked.failed ≡ 0
AsksReader (Err faults.Write) asked = asked.failed ≡ 0

-- a write failed, which is the one that did, and there was no flush
abbrev pub FailsInWrite : Counts → Counts → Type 0
FailsInWrite written flushed = (written.failed ≡ 1) × (flushed.made ≡ 0)

-- no write failed, and there was one flush
abbrev pub FlushesOnce : Counts → Counts → Type 0
FlushesOnce written flushed = (written.failed ≡ 0) × (flushed.made ≡ 1)

-- the calls of the writer, by how a run ended: after `Write`, a write failed, in the text of the last line that was read, and nothing was flushed, or the one flush failed, after the whole output; after any other answer no write failed and there was one flush, which didn't fail if the answer is `Ok`
abbrev pub CallsWriter : Meaning → Result Status RunFault → Counts → Counts → Option (List ℕ) → Option (List ℕ) → Option (List ℕ) → Option (List ℕ) → Type 0
CallsWriter means (Ok status) written flushed reader rest before after = FlushesOnce written flushed × (flushed.failed ≡ 0)
CallsWriter means (Err faults.Memory) written flushed reader rest before after = FlushesOnce written flushed
CallsWriter means (Err faults.Read) written flushed reader rest before after = FlushesOnce written flushed
CallsWriter means (Err faults.Write) written flushed reader rest before after =
    (FailsInWrite written flushed × EndsAtWriter means reader rest before after) ⊎ (FlushesOnce written flushed × (flushed.failed ≡ 1) × EndsAtFlush means reader rest before after)

-- what was read and written, by how the lines of a script ended: as a run, but no flush has failed yet
abbrev pub LinesEnd : Meaning → Result Status RunFault → Option (List ℕ) → Option (List ℕ) → Option (List ℕ) → Option (List ℕ) → Type 0
LinesEnd means (Ok status) reader rest before after = EndsWhole means status reader rest before after
LinesEnd means (Err faults.Memory) reader rest before after = EndsAtCommand means reader rest before after ⊎ EndsInLine means reader rest before after
LinesEnd means (Err faults.Read) reader rest before after = EndsAtReader means reader rest before after
LinesEnd means (Err faults.Write) reader rest before after = EndsAtWriter means reader rest before after

-- what the flush makes of an answer: there is one flush, but none after a failed write, and if it fails, it spoils only an `Ok`
abbrev pub FlushGives : Result Status RunFault → Result Status RunFault → Counts → Type 0
FlushGives (Ok status) result flushed = (flushed.made ≡ 1) × (((result ≡ Ok status) × (flushed.failed ≡ 0)) ⊎ ((result ≡ Err faults.Write) × (flushed.failed ≡ 1)))
FlushGives (Err faults.Memory) result flushed = (flushed.made ≡ 1) × (result ≡ Err faults.Memory)
FlushGives (Err faults.Read) result flushed = (flushed.made ≡ 1) × (result ≡ Err faults.Read)
FlushGives (Err faults.Write) result flushed = (flushed.made ≡ 0) × (result ≡ Err faults.Write)
