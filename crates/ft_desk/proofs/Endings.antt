-- How the endings of a run follow from what it has done.
use Rattle.std.proofs.Common.{◌≡◌, ◌≢◌, ℕ, ◌<◌, ◌≤◌, Bool, List, [], ◌∷◌, ◌++◌, Option, Result, Ok, Err, IfSome, length, inl, inr, sym, ap, subst, ◌∙◌, append_assoc, length-append, arith}
use Rattle.std.specs.Prelude.{◌||◌}
use Rattle.std.specs.Io.KnownBytes.{Keeps, Appends, Consumes}
use Rattle.std.proofs.KnownBytes.{Consumes-kept, Consumes-trans, Appends-trans, Appends-kept}
use Rattle.ft_answers.specs.Base.{Base, empty_base}
use Rattle.ft_desk.specs.declared.pieces.Taken.TheVariants as takes
use Rattle.ft_desk.specs.declared.running.Status.{Status}
use Rattle.ft_desk.specs.declared.running.RunFault.{RunFault}
use Rattle.ft_desk.specs.declared.running.RunFault.TheVariants as faults
use Rattle.ft_text.specs.Lines.{ended_lines}
use Rattle.ft_script.specs.Script.{asked_by}
use Rattle.ft_desk.specs.Output.{Meaning, output_of_lines}
use Rattle.ft_desk.specs.Counts.{Counts}
use Rattle.ft_desk.specs.Run.{asking_limit, status_of, text_behind, BreaksOff, EndsAtWriter, RunEnds}
use Rattle.ft_desk.specs.Steps.{TakingGives, LineGives, AsksReader, CallsWriter, read_failures, write_failures}
use Rattle.ft_desk.specs.Steps.{LinesEnd, FlushGives}
use Rattle.ft_desk.proofs.LineLemmas.{last_piece, ended_lines-line}
use Rattle.ft_desk.proofs.OutputLemmas.{output_from-push, asked_by-kept}
use Rattle.ft_desk.proofs.Progress.{Progress, Next, all_read, front_read, last_lines, whole_lines, kept-some, kept-none, line_kept}

module _ (means : Meaning) where
  -- a flush changes nothing of what was written
  writer_ends : (reader rest before after later : Option (List ℕ)) → EndsAtWriter means reader rest before after → Keeps after later → EndsAtWriter means reader rest before later
  writer_ends reader rest before after later at kept = (at.0, at.1, at.2, (at.3.0, at.3.1, Appends-kept before after later _ at.3.2 kept, at.3.3, at.3.4))

  -- a flush that failed or not, after an answer
  pub flush_ends : (answer result : Result Status RunFault) (flushed : Counts) (reader rest before after later : Option (List ℕ)) → LinesEnd means answer reader rest before after → Keeps after later
      → FlushGives answer result flushed → RunEnds means result reader rest before later
  flush_ends (Ok status) result flushed reader rest before after later ends kept gives = elim gives.1 [
    | inl well ↦ rw well.0 (ends.0, ends.1, Appends-kept before after later _ ends.2 kept, ends.3)
    | inr failed ↦ rw failed.0 (inr (ends.0, ends.1, Appends-kept before after later _ ends.2 kept))
  ]
  flush_ends (Err faults.Memory) result flushed reader rest before after later ends kept gives = rw gives.1 (elim ends [
    | inl at ↦ inl (at.0, at.1, at.2, Appends-kept before after later _ at.3 kept)
    | inr within ↦ inr (within.0, within.1, Appends-kept before after later _ within.2 kept)
  ])
  flush_ends (Err faults.Read) result flushed reader rest before after later ends kept gives = rw gives.1 (ends.0, ends.1, Appends-kept before after later _ ends.2 kept)
  flush_ends (Err faults.Write) result flushed reader rest before after later ends kept gives = rw gives.1 (inl (writer_ends reader rest before after later ends kept))

  -- the calls of the writer, with that flush
  pub flush_calls : (answer result : Result Status RunFault) (written flushed : Counts) (reader rest before after later : Option (List ℕ)) → LinesEnd means answer reader rest before after → Keeps after later
      → written.failed ≡ write_failures answer → FlushGives answer result flushed → CallsWriter means result written flushed reader rest before later
  flush_calls (Ok status) result written flushed reader rest before after later ends kept well gives = elim gives.1 [
    | inl done ↦ rw done.0 ((well, gives.0), done.1)
    | inr failed ↦ rw failed.0 (inr ((well, gives.0), failed.1, (ends.0, ends.1, Appends-kept before after later _ ends.2 kept)))
  ]
  flush_calls (Err faults.Memory) result written flushed reader rest before after later ends kept well gives = rw gives.1 (well, gives.0)
  flush_calls (Err faults.Read) result written flushed reader rest before after later ends kept well gives = rw gives.1 (well, gives.0)
  flush_calls (Err faults.Write) result written flushed reader rest before after later ends kept well gives = rw gives.1 (inl ((well, gives.0), writer_ends reader rest before after later ends kept))

  -- the reader failed, or gave no end in all its turns
  pub gives_up : (base : Base) (refused : Bool) (piece : List ℕ) (turns : ℕ) (reader left rest before after : Option (List ℕ)) (p : Progress means reader left before after base refused piece turns)
      → turns ≤ asking_limit → Keeps left rest → LinesEnd means (Err faults.Read) reader rest before after
  gives_up base refused piece turns reader left rest before after p within kept = (p.read, (Consumes-kept reader left rest p.read p.consumed kept, omega (arith, p.lines)), p.written)

  module _ (base : Base) (refused : Bool) (piece next : List ℕ) (turns : ℕ) (reader left rest before after : Option (List ℕ)) (p : Progress means reader left before after base refused piece turns) where
    -- no memory for bytes of a line
    no_room : turns < asking_limit → Keeps left rest → IfSome left (λ bytes. bytes ≢ []) → LinesEnd means (Err faults.Memory) reader rest before after
    no_room turn kept some = inr (p.read, front_read reader left rest p.read (omega (arith, p.lines)) p.consumed kept some, p.written)

    -- the line whose end was taken is the next one
    pub line_begins : turns < asking_limit → TakingGives (Ok takes.Line) left rest piece next → Next reader rest p.read next
    line_begins turn took =
        let part = took.0 in
        let line = last_piece p.read ++ part in
        let whole : (p.read ++ part) ++ 10 ∷ [] ≡ p.read ++ (part ++ 10 ∷ []) = append_assoc p.read part (10 ∷ []) in
        let ended : ended_lines ((p.read ++ part) ++ 10 ∷ []) ≡ ended_lines p.read ++ line ∷ [] = ap ended_lines whole ∙ (ended_lines-line p.read part took.2.0).0 in
        let consumed = subst (Consumes reader rest) (sym whole) (Consumes-trans reader left rest _ _ p.consumed took.1) in
        record {
          line = line;
          reads = (p.read ++ part, inl ((consumed, omega (arith, p.lines, ap length ended, length-append (ended_lines p.read) (line ∷ []))), ended));
          asked = ap asked_by (line_kept means reader left before after base refused piece next turns p part took.2) ∙ asked_by-kept line;
        }

    -- so is a last line without an end
    pub last_begins : turns < asking_limit → TakingGives (Ok takes.End) left rest piece next → next ≢ [] → Next reader rest p.read next
    last_begins turn took some =
        let line = last_piece p.read in
        let kept = took.2 ∙ p.kept in
        record {
          line = line;
          reads = (p.read, inr (all_read reader left rest p.read (omega (arith, p.lines)) p.consumed took.0 took.1, last_lines p.read (kept-some line next kept some)));
          asked = ap asked_by kept ∙ asked_by-kept line;
        }

    -- no memory for the next line
    no_memory : (later : Option (List ℕ)) → Next reader rest p.read next → Keeps after later → LinesEnd means (Err faults.Memory) reader rest before later
    no_memory later is kept = inl (ended_lines p.read, is.line, is.reads, Appends-kept before after later _ p.written kept)

    -- a write of the next line's text failed
    no_write : (later : Option (List ℕ)) → Next reader rest p.read next → BreaksOff after later [] (means base (asked_by next)).text
        → LinesEnd means (Err faults.Write) reader rest before later
    no_write later is breaks =
        let lines = ended_lines p.read in
        let same : (means base (asked_by next)).text ≡ text_behind means lines is.line =
        ap (λ b. (means b (asked_by next)).text) p.held ∙ ap (λ a. (means (output_of_lines means lines).base a).text) is.asked in
        (lines, is.line, is.reads, (breaks.0, breaks.1, Appends-trans before after later _ breaks.0 p.written breaks.2, sym same ∙ breaks.3, breaks.4))

    -- the script's end after a line's end
    pub ends : turns < asking_limit → TakingGives (Ok takes.End) left rest piece next → next ≡ [] → LinesEnd means (Ok (status_of refused)) reader rest before after
    ends turn took none =
        let lines = whole_lines p.read (kept-none (last_piece p.read) next (took.2 ∙ p.kept) none) in (
          p.read,
          all_read reader left rest p.read (omega (arith, p.lines)) p.consumed took.0 took.1,
          rw lines p.written,
          rw lines (ap status_of p.told),
        )

    -- the script's end after a last line without an end, which is done
    pub ends_with : turns < asking_limit → TakingGives (Ok takes.End) left rest piece next → next ≢ [] → (later : Option (List ℕ)) (held : Base) (told : Bool)
        → LineGives (means base (asked_by next)) held after later (Ok told) → LinesEnd means (Ok (status_of (refused || told))) reader rest before later
    ends_with turn took some later held told gives =
        let line = last_piece p.read in
        let kept = took.2 ∙ p.kept in
        let lines = last_lines p.read (kept-some line next kept some) in
        let pushed = output_from-push means empty_base (ended_lines p.read) line in
        let done = output_of_lines means (ended_lines p.read) in
        let does = means done.base (asked_by line) in
        let same = ap (λ b. means b (asked_by next)) p.held ∙ ap (means done.base) (ap asked_by kept ∙ asked_by-kept line) in (
          p.read,
          all_read reader left rest p.read (omega (arith, p.lines)) p.consumed took.0 took.1,
          rw (lines, pushed.0) (Appends-trans before after later _ does.text p.written (subst (λ o. Appends after later o.text) same gives.2)),
          ap status_of (ap (λ t. refused || t) gives.0 ∙ ap (λ o. refused || o.refused) same ∙ ap (λ r. r || does.refused) p.told ∙ sym pushed.2 ∙ ap (λ l. (output_of_lines means l).refused) (sym lines)),
        )

    -- a taking that failed
    pub taking_fails : (fault : RunFault) → turns < asking_limit → TakingGives (Err fault) left rest piece next → LinesEnd means (Err fault) reader rest before after
    taking_fails faults.Memory turn took = no_room turn took.0 took.1
    taking_fails faults.Read turn took = gives_up base refused piece turns reader left rest before after p (omega arith) took
    taking_fails faults.Write turn took = absurd took

    -- a line that failed
    pub line_fails : (fault : RunFault) (later : Option (List ℕ)) (held : Base) → Next reader rest p.read next
        → LineGives (means base (asked_by next)) held after later (Err fault) → LinesEnd means (Err fault) reader rest before later
    line_fails faults.Memory later held is gives = no_memory later is gives
    line_fails faults.Read later held is gives = absurd gives
    line_fails faults.Write later held is gives = no_write later is gives

-- how often the reader was asked, if a taking failed
pub asked_failing : (fault : RunFault) (asked : Counts) → asked.failed ≡ read_failures {T = Unit {0}} (Err fault) → AsksReader (Err fault) asked
asked_failing faults.Memory asked failed = failed
asked_failing faults.Read asked failed = inl failed
asked_failing faults.Write asked failed = failed

-- and if a line failed
pub asked_well : (means : Meaning) (base held : Base) (piece : List ℕ) (fault : RunFault) (after later : Option (List ℕ))
    → LineGives (means base (asked_by piece)) held after later (Err fault) → (asked : Counts) → asked.failed ≡ 0 → AsksReader (Err fault) asked
asked_well means base held piece faults.Memory after later gives asked well = well
asked_well means base held piece faults.Read after later gives asked well = absurd gives
asked_well means base held piece faults.Write after later gives asked well = well

-- a taking writes nothing
pub taking_unwritten : (fault : RunFault) (left rest : Option (List ℕ)) (before after : List ℕ) → TakingGives (Err fault) left rest before after → {failed : ℕ} → failed ≡ 0 → failed ≡ write_failures {T = Unit {0}} (Err fault)
taking_unwritten faults.Memory left rest before after gives well = well
taking_unwritten faults.Read left rest before after gives well = well
taking_unwritten faults.Write left rest before after gives well = absurd gives
