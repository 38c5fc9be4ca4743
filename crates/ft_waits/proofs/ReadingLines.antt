-- One line more is read.
use Rattle.std.specs.Prelude.{◌≡◌, ◌<◌, ◌≤◌, ◌+◌, ℕ, suc, Bool, false, List, [], ◌∷◌, length, reverse, nat_lt, if◌then◌else◌, Option, Some, None, Result, Ok, Err, ◌⊎◌, unwrap_or, IfSome, IfNone, option_map}
use Rattle.std.specs.List.{count_by}
use Rattle.std.specs.Option.{option_or}
use Rattle.std.proofs.Common.{refl, sym, ap, subst, ◌∙◌, arith, cond, inl, inr, add-one}
use Rattle.std.proofs.lemmas.Bool.{lt-ltb, false_from_ne_true, ltb-true}
use Rattle.std.proofs.lemmas.List.Sums.{sum_by-cons, count_by-le-length}
use Rattle.ft_fields.specs.Traced.{Traced}
use Rattle.ft_event.specs.declared.fault.Line.{Line}
use Rattle.ft_event.specs.declared.fault.Line.TheVariants as lines
use Rattle.ft_event.specs.declared.fault.LineFault.{LineFault}
use Rattle.ft_event.specs.Line.{line_of}
use Rattle.ft_event.specs.Marks.{MarkIs}
use Rattle.ft_event.specs.declared.mark.Mark.{Mark}
use Rattle.ft_losses.specs.Notes.{Note, NoteBy, NoteIs, Silent, SkippedIs, AreNotes, quiet_note}
use Rattle.ft_losses.specs.Telling.{Keeps}
use Rattle.ft_waits.specs.Reading.{events_of, with_line, is_bad, bad_at, first_bad, lines_read, first_stamp, last_stamp, latest, refusal_of, refused, number_limit, CountsEvents, FailsAt}
use Rattle.ft_waits.specs.Missing.{passed, running, missing_in}
use Rattle.ft_dispatch.specs.declared.dispatch.Dispatch.{Dispatch}
use Rattle.ft_waits.specs.declared.fault.BadLine.{BadLine}
use Rattle.ft_waits.specs.declared.fault.BadLines.{BadLines}
use Rattle.ft_waits.specs.declared.fault.BadLines.TheVariants as policies
use Rattle.ft_waits.specs.declared.fault.LinesRead.{LinesRead}
use Rattle.ft_waits.specs.declared.fault.WaitsFault.{WaitsFault}
use Rattle.ft_waits.specs.declared.fault.WaitsFault.TheVariants as faults
use Rattle.ft_waits.specs.declared.reading.Reading.{Reading}
use Rattle.ft_waits.specs.inner.Known.{Follows, IsNumbered, Misses}
use Rattle.ft_waits.specs.inner.Running.{RunsTasks}
use Rattle.ft_waits.specs.inner.Starts.{starts_of}
use Rattle.ft_waits.specs.declared.state.State.{State}
use Rattle.ft_waits.proofs.Noticing.{passed-is}
use Rattle.ft_waits.specs.inner.Streams.{ReadsLines}

-- ---- what is counted

or-none : {X : Type 0} (o : Option X) → option_or o None ≡ o
or-none None = refl
or-none (Some x) = refl

-- what was read of a line more
abbrev pub read-more : LinesRead → Result Line LineFault → LinesRead
read-more read given = record { lines = read.lines + 1; bad = cond (is_bad given) 1 0 + read.bad; first = option_or read.first (bad_at (read.lines + 1) given) }

pub lines-more : (line : List ℕ) (before : List (List ℕ)) → lines_read (line ∷ before) ≡ read-more (lines_read before) (line_of line)
unfolding lines_read first_bad
lines-more line before =
    let parts = sum_by-cons (λ (l : List ℕ). cond (is_bad (line_of l)) 1 0) line before in
    let one : suc (length before) ≡ length before + 1 = omega arith in
    let bad : count_by (λ (l : List ℕ). is_bad (line_of l)) (line ∷ before) ≡ cond (is_bad (line_of line)) 1 0 + count_by (λ (l : List ℕ). is_bad (line_of l)) before = parts in
    (λ i. record { lines = one i; bad = bad i; first = option_or (first_bad before) (bad_at (one i) (line_of line)) })

-- ---- refusals

-- lines of which none is refused, and one more
pub refused-more : (policy : BadLines) (line : List ℕ) (before : List (List ℕ)) (given : Result Line LineFault) (number : ℕ) (last : ℕ)
    → refused policy before ≡ None → line_of line ≡ given → number ≡ length before + 1 → last ≡ latest (events_of before) → refused policy (line ∷ before) ≡ refusal_of policy number last given
unfolding refused
refused-more policy line before given number last none is one same =
    ap (λ (o : Option WaitsFault). option_or o (refusal_of policy (suc (length before)) (latest (events_of before)) (line_of line))) none
    ∙ ap (λ (n : ℕ). refusal_of policy n (latest (events_of before)) (line_of line)) (omega (arith, one))
    ∙ ap (λ (n : ℕ). refusal_of policy number n (line_of line)) (sym same)
    ∙ ap (refusal_of policy number last) is

-- an event that is not before the last one is taken, and one that is, is not
pub in-time : (policy : BadLines) (number last : ℕ) (event : Traced) → last ≤ event.stamp → refusal_of policy number last (Ok (lines.Event event)) ≡ None
in-time policy number last event fits = ap (λ (b : Bool). if b then Some (faults.Backwards number) else None) (false_from_ne_true (nat_lt event.stamp last) (λ low.
    let under = ltb-true event.stamp last low in
    omega (arith, under, fits)))

pub too-early : (policy : BadLines) (number last : ℕ) (event : Traced) → event.stamp < last → refusal_of policy number last (Ok (lines.Event event)) ≡ Some (faults.Backwards number)
too-early policy number last event low = ap (λ (b : Bool). if b then Some (faults.Backwards number) else None) (lt-ltb event.stamp last low)

-- ---- events are no more than lines

events-fit : (given : Result Line LineFault) (events : List Traced) (n : ℕ) → length events ≤ n → length (with_line given events) ≤ suc n
events-fit (Ok (lines.Event event)) events n fits = omega (arith, fits)
events-fit (Ok lines.Skip) events n fits = omega (arith, fits)
events-fit (Err fault) events n fits = omega (arith, fits)

pub all-fit : (before : List (List ℕ)) → length (events_of before) ≤ length before
unfolding events_of
all-fit [] = omega arith
all-fit (line ∷ before) = events-fit (line_of line) (events_of before) (length before) (all-fit before)

-- ---- a line is read

-- each line reports one thing
pub as-many : (lines : List (List ℕ)) (notes : List Note) → AreNotes lines notes → length notes ≡ length lines
as-many [] notes none = ap length none
as-many (line ∷ before) [] wrong = absurd wrong
as-many (line ∷ before) (note ∷ notes) are = ap suc (as-many before notes are.1)

-- the mark that a line is, if it is one
pub skipped-by : (line : List ℕ) (mark : Option Mark) → IfSome mark (MarkIs line) → IfNone mark ((other : Mark) → MarkIs line other → ⊥) → SkippedIs line (quiet_note mark)
skipped-by line None some none = none
skipped-by line (Some mark) some none = some

-- what is kept of losses after one note more
abbrev pub TakesNote : Reading → Reading → Note → Type 0
TakesNote old new note = (notes : List Note) → Keeps old.losses notes → old.read.lines + 1 ≡ suc (length notes) → Keeps new.losses (note ∷ notes)

-- what is missing after one note more
abbrev pub MissesNote : Reading → Reading → Note → Type 0
MissesNote old new note = (notes : List Note) → CountsEvents old.state.lines.items (passed notes) → Misses old.state notes → Misses new.state (note ∷ notes)

-- a line that reports nothing
pub misses-silent : (state : State) (notes : List Note) → Misses state notes → Misses state (Silent ∷ notes)
unfolding running missing_in starts_of
misses-silent state notes misses = record {
  runs = misses.runs;
  missing = misses.missing;
  starts = misses.starts;
}

-- a line that is a mark, or isn't
pub misses-marked : (state : State) (mark : Option Mark) (notes : List Note) → RunsTasks state.running.items (quiet_note mark ∷ notes) → state.missing ≡ missing_in notes → state.starts.items ≡ reverse (starts_of notes)
    → Misses state (quiet_note mark ∷ notes)
unfolding missing_in starts_of
misses-marked state None notes runs missing starts = record {
  runs = runs;
  missing = missing;
  starts = starts;
}
misses-marked state (Some mark) notes runs missing starts = record {
  runs = runs;
  missing = missing;
  starts = starts;
}

-- what a line reports that reads so
pub note-by : (line : List ℕ) (given : Result Line LineFault) (note : Note) → line_of line ≡ given → NoteBy given line note → NoteIs line note
note-by line given note is by = subst (λ (g : Result Line LineFault). NoteBy g line note) (sym is) by

-- what is read after one more line
pub reads-more : (old new : Reading) (given : Result Line LineFault) (line : List ℕ) (before : List (List ℕ)) (told told_now : List Dispatch)
    → line_of line ≡ given → ReadsLines old before told → new.bad_lines ≡ old.bad_lines → new.read ≡ read-more old.read given
    → refusal_of old.bad_lines (old.read.lines + 1) old.state.latest given ≡ None → (note : Note) → NoteIs line note → TakesNote old new note → MissesNote old new note → Follows new.state (with_line given (events_of before)) told_now
    → ReadsLines new (line ∷ before) told_now
unfolding events_of lines_read
reads-more old new given line before told told_now is reads same read taken note noted takes misses follows = record {
  unrefused = ap (λ (p : BadLines). refused p (line ∷ before)) same
      ∙ refused-more old.bad_lines line before given (old.read.lines + 1) old.state.latest reads.unrefused is (ap (λ (r : LinesRead). r.lines + 1) reads.read) reads.state.last ∙ taken;
  read = read ∙ ap (λ (r : LinesRead). read-more r given) reads.read ∙ ap (read-more (lines_read before)) (sym is) ∙ sym (lines-more line before);
  notes = note ∷ reads.notes;
  noted = (noted, reads.noted);
  losses = takes reads.notes reads.losses (ap (λ (r : LinesRead). r.lines + 1) reads.read ∙ add-one (length before) ∙ ap suc (sym (as-many before reads.notes reads.noted)));
  misses = misses reads.notes (subst (CountsEvents old.state.lines.items) (sym (passed-is before reads.notes reads.noted)) reads.state.counts) reads.misses;
  state = subst (λ (g : Result Line LineFault). Follows new.state (with_line g (events_of before)) told_now) (sym is) follows;
}

-- a line is refused
pub fails-more : (old : Reading) (given : Result Line LineFault) (line : List ℕ) (before : List (List ℕ)) (told : List Dispatch) (fault : WaitsFault)
    → line_of line ≡ given → ReadsLines old before told → refusal_of old.bad_lines (old.read.lines + 1) old.state.latest given ≡ Some fault
    → FailsAt old.bad_lines (line ∷ before) fault
unfolding lines_read
fails-more old given line before told fault is reads refuses =
    inr (inr (refused-more old.bad_lines line before given (old.read.lines + 1) old.state.latest reads.unrefused is (ap (λ (r : LinesRead). r.lines + 1) reads.read) reads.state.last ∙ refuses))

-- so many lines that no number is left
pub too-long : (old : Reading) (line : List ℕ) (before : List (List ℕ)) (told : List Dispatch) (fault : WaitsFault) → ReadsLines old before told → fault ≡ faults.TooLong → number_limit ≤ length before → FailsAt old.bad_lines (line ∷ before) fault
too-long old line before told fault reads is most = inr (inl (is, omega (arith, most)))

pub lines-full : (old : Reading) (before : List (List ℕ)) (told : List Dispatch) → ReadsLines old before told → number_limit ≤ old.read.lines → number_limit ≤ length before
unfolding lines_read
lines-full old before told reads most = subst (λ (n : ℕ). number_limit ≤ n) (ap (λ (r : LinesRead). r.lines) reads.read) most

-- a line that can be read is counted
pub quiet : (old : LinesRead) (number : ℕ) (given : Result Line LineFault) → is_bad given ≡ false → number ≡ old.lines + 1 → (record { lines = number; bad = old.bad; first = old.first }) ≡ read-more old given
quiet old number (Ok line) good is =
    let same : old.bad ≡ 0 + old.bad = omega arith in
    (λ i. record { lines = is i; bad = same i; first = sym (or-none old.first) i })
quiet old number (Err fault) good is = absurd cc

-- a line that can't be read is counted, and is the first if there was none
pub first-or : {X : Type 0} (first : Option X) (line : X) → Some (unwrap_or first line) ≡ option_or first (Some line)
first-or None line = refl
first-or (Some found) line = refl

pub loud : (old : LinesRead) (number bad : ℕ) (fault : LineFault) (first : BadLine) → number ≡ old.lines + 1 → bad ≡ old.bad + 1 → first ≡ unwrap_or old.first (record { line = number; fault = fault })
    → (record { lines = number; bad = bad; first = Some first }) ≡ read-more old (Err fault)
loud old number bad fault first is more found =
    let one : bad ≡ 1 + old.bad = omega (arith, more) in
    let same : Some first ≡ option_or old.first (Some (record { line = old.lines + 1; fault = fault })) =
    ap (λ (x : BadLine). Some x) found ∙ first-or old.first (record { line = number; fault = fault }) ∙ ap (λ (n : ℕ). option_or old.first (Some (record { line = n; fault = fault }))) is in
    (λ i. record { lines = is i; bad = one i; first = same i })

-- such a line is refused, or not
pub refuses-bad : (policy : BadLines) (number last : ℕ) (fault : LineFault) → policy ≡ policies.Refuse → refusal_of policy number last (Err fault) ≡ Some (faults.BadLine (record { line = number; fault = fault }))
refuses-bad policy number last fault is = ap (λ (p : BadLines). refusal_of p number last (Err fault)) is

pub skips-bad : (policy : BadLines) (number last : ℕ) (fault : LineFault) → policy ≡ policies.Skip → refusal_of policy number last (Err fault) ≡ None
skips-bad policy number last fault is = ap (λ (p : BadLines). refusal_of p number last (Err fault)) is

-- why an event was not taken
pub too-many : (old : Reading) (line : List ℕ) (before : List (List ℕ)) (told : List Dispatch) (fault : WaitsFault) → ReadsLines old before told
    → (fault ≡ faults.Memory) ⊎ ((fault ≡ faults.TooLong) × ((notes : List Note) (told : List Dispatch) → Follows old.state (passed notes) told → Misses old.state notes → IsNumbered (passed notes)))
    → FailsAt old.bad_lines (line ∷ before) fault
too-many old line before told fault reads (inl memory) = inl memory
too-many old line before told fault reads (inr full) =
    let same = passed-is before reads.notes reads.noted in
    let most : number_limit ≤ length (events_of before) =
    subst (λ (es : List Traced). number_limit ≤ length es) same (full.1 reads.notes told (subst (λ (es : List Traced). Follows old.state es told) (sym same) reads.state) reads.misses) in
    let fits = all-fit before in
    inr (inl (full.0, omega (arith, most, fits)))

-- so many lines that can't be read that no number is left
pub bad-full : (old : Reading) (before : List (List ℕ)) (told : List Dispatch) → ReadsLines old before told → number_limit ≤ old.read.bad → number_limit ≤ length before
unfolding lines_read
bad-full old before told reads most =
    let same = ap (λ (r : LinesRead). r.bad) reads.read in
    let fits = count_by-le-length (λ (line : List ℕ). is_bad (line_of line)) before in
    omega (arith, most, same, fits)

-- the last event's stamp
pub last-known : (events : List Traced) → option_map (λ stamp. latest events) (first_stamp events) ≡ last_stamp events
unfolding first_stamp
last-known [] = refl
last-known (event ∷ before) = some-or (first_stamp before) event.stamp event.stamp
  where
    some-or : (first : Option ℕ) (stamp last : ℕ) → option_map (λ (s : ℕ). last) (option_or first (Some stamp)) ≡ Some last
    some-or None stamp last = refl
    some-or (Some found) stamp last = refl
