-- The lines of a part behind the lines before it.
use Rattle.std.specs.Prelude.{◌≡◌, ◌≤◌, ◌<◌, ◌+◌, min, ℕ, suc, Bool, List, [], ◌∷◌, ◌++◌, length, Option, Some, None, unwrap_or, option_map, Result, Ok, Err, if◌then◌else◌}
use Rattle.std.specs.List.{AllByRecursion, count_by}
use Rattle.std.specs.Option.{option_or}
use Rattle.std.proofs.Common.{refl, sym, ap, subst, ◌∙◌, arith, cond, inl, inr}
use Rattle.std.proofs.lemmas.Bool.{cases_lt, lt-ltb}
use Rattle.std.proofs.lemmas.List.{length-append}
use Rattle.std.proofs.lemmas.List.Sums.{sum_by-append, count_by-le-length}
use Rattle.ft_event.specs.Line.{line_of}
use Rattle.ft_event.specs.declared.fault.Line.{Line}
use Rattle.ft_event.specs.declared.fault.Line.TheVariants as lines
use Rattle.ft_event.specs.declared.fault.LineFault.{LineFault}
use Rattle.ft_fields.specs.Traced.{Traced, last_cpu}
use Rattle.ft_losses.specs.Notes.{Note, NoteBy, AreNotes}
use Rattle.ft_losses.specs.Telling.{IsOnCpu}
use Rattle.ft_waits.specs.Reading.{with_line, events_of, is_bad, bad_at, first_bad, lines_read, first_stamp, latest, number_limit, refusal_of, refused}
use Rattle.ft_waits.specs.declared.fault.BadLine.{BadLine}
use Rattle.ft_waits.specs.declared.fault.BadLines.{BadLines}
use Rattle.ft_waits.specs.declared.fault.BadLines.TheVariants as policies
use Rattle.ft_waits.specs.declared.fault.WaitsFault.TheVariants as faults
use Rattle.ft_waits.specs.inner.Lines.{bad_behind, lines_with}
use Rattle.ft_waits.specs.inner.Starts.{most}
use Rattle.ft_waits.proofs.ReadingLines.{first-or, in-time}
use Rattle.ft_waits.proofs.SeamStates.{last-after}
use Rattle.ft_waits.proofs.Shifted.{no-events}

-- ---- events

with-behind : (given : Result Line LineFault) (own before : List Traced) → with_line given (own ++ before) ≡ with_line given own ++ before
with-behind (Ok (lines.Event event)) own before = refl
with-behind (Ok lines.Skip) own before = refl
with-behind (Err fault) own before = refl

pub events-behind : (own before : List (List ℕ)) → events_of (own ++ before) ≡ events_of own ++ events_of before
unfolding events_of
events-behind [] before = refl
events-behind (line ∷ own) before = ap (with_line (line_of line)) (events-behind own before) ∙ with-behind (line_of line) (events_of own) (events_of before)

-- they are on CPUs that there can be
event-on : (given : Result Line LineFault) (line : List ℕ) (note : Note) (events : List Traced) → NoteBy given line note → IsOnCpu note → AllByRecursion (λ (e : Traced). e.cpu ≤ last_cpu) events → AllByRecursion (λ (e : Traced). e.cpu ≤ last_cpu) (with_line given events)
event-on (Ok (lines.Event event)) line note events by on rest = (subst IsOnCpu by on, rest)
event-on (Ok lines.Skip) line note events by on rest = rest
event-on (Err fault) line note events by on rest = rest

pub events-on : (own : List (List ℕ)) (notes : List Note) → AreNotes own notes → AllByRecursion IsOnCpu notes → AllByRecursion (λ (e : Traced). e.cpu ≤ last_cpu) (events_of own)
unfolding events_of
events-on [] notes noted on = tt
events-on (line ∷ own) [] noted on = absurd noted
events-on (line ∷ own) (note ∷ notes) noted on = event-on (line_of line) line note (events_of own) noted.0 on.0 (events-on own notes noted.1 on.1)

-- ---- notes

pub notes-behind : (own before : List (List ℕ)) (notes others : List Note) → AreNotes own notes → AreNotes before others → AreNotes (own ++ before) (notes ++ others)
notes-behind [] before notes others noted rest = subst (λ (ns : List Note). AreNotes before (ns ++ others)) (sym noted) rest
notes-behind (line ∷ own) before [] others noted rest = absurd noted
notes-behind (line ∷ own) before (note ∷ notes) others noted rest = (noted.0, notes-behind own before notes others noted.1 rest)

-- ---- refusals

none-first : {X : Type 0} (a b : Option X) → option_or a b ≡ None → a ≡ None
none-first None b h = refl
none-first (Some x) b h = absurd (cc)

none-second : {X : Type 0} (a b : Option X) → option_or a b ≡ None → b ≡ None
none-second None b h = h
none-second (Some x) b h = absurd (cc)

none-both : {X : Type 0} (a b : Option X) → a ≡ None → b ≡ None → option_or a b ≡ None
none-both {X = X} a b first second = ap (λ (o : Option X). option_or o b) first ∙ second

-- an event that is not refused is not before the last one
not-before : (policy : BadLines) (number last : ℕ) (event : Traced) → refusal_of policy number last (Ok (lines.Event event)) ≡ None → last ≤ event.stamp
not-before policy number last event taken = elim (cases_lt event.stamp last) [
  | inl low ↦ absurd (refuses (ap (λ (b : Bool). if b then Some (faults.Backwards number) else None) (sym (lt-ltb event.stamp last low)) ∙ taken))
  | inr high ↦ high
]
  where
    refuses : {X : Type 0} {x : X} → Some x ≡ None → ⊥
    refuses h = absurd (cc)

-- a line that is taken after the part's is taken after both
same-refusal : (policy : BadLines) (number other : ℕ) (own before : List Traced) (given : Result Line LineFault) → refusal_of policy number (latest own) given ≡ None
    → AllByRecursion (λ (e : Traced). latest before ≤ e.stamp) (with_line given own) → refusal_of policy other (latest (own ++ before)) given ≡ None
same-refusal policy number other [] before (Ok (lines.Event event)) taken later = in-time policy other (latest before) event later.0
same-refusal policy number other (e ∷ own) before (Ok (lines.Event event)) taken later = in-time policy other e.stamp event (not-before policy number e.stamp event taken)
same-refusal policy number other own before (Ok lines.Skip) taken later = refl
same-refusal policies.Refuse number other own before (Err fault) taken later = absurd (cc)
same-refusal policies.Skip number other own before (Err fault) taken later = refl

later-rest : (given : Result Line LineFault) (P : Traced → Type 0) (own : List Traced) → AllByRecursion P (with_line given own) → AllByRecursion P own
later-rest (Ok (lines.Event event)) P own all = all.1
later-rest (Ok lines.Skip) P own all = all
later-rest (Err fault) P own all = all

pub refused-behind : (policy : BadLines) (own before : List (List ℕ)) → refused policy before ≡ None → refused policy own ≡ None → AllByRecursion (λ (e : Traced). latest (events_of before) ≤ e.stamp) (events_of own) → refused policy (own ++ before) ≡ None
unfolding refused events_of
refused-behind policy [] before none taken later = none
refused-behind policy (line ∷ own) before none taken later =
    let given = line_of line in
    let rest = none-first (refused policy own) (refusal_of policy (suc (length own)) (latest (events_of own)) given) taken in
    let here = none-second (refused policy own) (refusal_of policy (suc (length own)) (latest (events_of own)) given) taken in
    none-both (refused policy (own ++ before)) (refusal_of policy (suc (length (own ++ before))) (latest (events_of (own ++ before))) given)
    (refused-behind policy own before none rest (later-rest given (λ (e : Traced). latest (events_of before) ≤ e.stamp) (events_of own) later))
    (ap (λ (es : List Traced). refusal_of policy (suc (length (own ++ before))) (latest es) given) (events-behind own before)
    ∙ same-refusal policy (suc (length own)) (suc (length (own ++ before))) (events_of own) (events_of before) given here later)

-- ---- stamps rise

first-of : (event : Traced) (before : List Traced) (first : ℕ) → first_stamp (event ∷ before) ≡ Some first → first ≡ unwrap_or (first_stamp before) event.stamp
unfolding first_stamp
first-of event before first is = ap (λ (o : Option ℕ). unwrap_or o 0) (sym is ∙ sym (first-or (first_stamp before) event.stamp))

one-rises : (event : Traced) (own : List Traced) (first : ℕ) (o : Option ℕ) → o ≡ first_stamp own → first ≡ unwrap_or o event.stamp → latest own ≤ event.stamp
    → ((f : ℕ) → first_stamp own ≡ Some f → AllByRecursion (λ (e : Traced). f ≤ e.stamp) own) → AllByRecursion (λ (e : Traced). first ≤ e.stamp) (event ∷ own)
one-rises event own first None none is in_time rest =
    (omega (arith, is), subst (λ (es : List Traced). AllByRecursion (λ (e : Traced). first ≤ e.stamp) es) (sym (no-events own (sym none))) tt)
one-rises event own first (Some f) some is in_time rest =
    let all = rest f (sym some) in
    let low = last-after own f (sym some) all in
    (omega (arith, is, low, in_time), subst (λ (n : ℕ). AllByRecursion (λ (e : Traced). n ≤ e.stamp) own) (sym is) all)

line-rises : (policy : BadLines) (number : ℕ) (given : Result Line LineFault) (own : List Traced) → refusal_of policy number (latest own) given ≡ None → ((f : ℕ) → first_stamp own ≡ Some f → AllByRecursion (λ (e : Traced). f ≤ e.stamp) own)
    → (first : ℕ) → first_stamp (with_line given own) ≡ Some first → AllByRecursion (λ (e : Traced). first ≤ e.stamp) (with_line given own)
line-rises policy number (Ok (lines.Event event)) own taken rest first is = one-rises event own first (first_stamp own) refl (first-of event own first is) (not-before policy number (latest own) event taken) rest
line-rises policy number (Ok lines.Skip) own taken rest first is = rest first is
line-rises policy number (Err fault) own taken rest first is = rest first is

pub rises-on : (policy : BadLines) (own : List (List ℕ)) → refused policy own ≡ None → (first : ℕ) → first_stamp (events_of own) ≡ Some first → AllByRecursion (λ (e : Traced). first ≤ e.stamp) (events_of own)
unfolding refused events_of
rises-on policy [] taken first is = tt
rises-on policy (line ∷ own) taken first is =
    line-rises policy (suc (length own)) (line_of line) (events_of own) (none-second (refused policy own) (refusal_of policy (suc (length own)) (latest (events_of own)) (line_of line)) taken)
    (λ f at. rises-on policy own (none-first (refused policy own) (refusal_of policy (suc (length own)) (latest (events_of own)) (line_of line)) taken) f at) first is

-- those of a part come after a stamp, if the first one does
pub all-later : (n : ℕ) (events : List Traced) → ((first : ℕ) → first_stamp events ≡ Some first → n < first) → ((first : ℕ) → first_stamp events ≡ Some first → AllByRecursion (λ (e : Traced). first ≤ e.stamp) events)
    → AllByRecursion (λ (e : Traced). n < e.stamp) events
unfolding first_stamp
all-later n [] after rises = tt
all-later n (event ∷ before) after rises =
    let first = unwrap_or (first_stamp before) event.stamp in
    let is : first_stamp (event ∷ before) ≡ Some first = sym (first-or (first_stamp before) event.stamp) in
    weaker first (after first is) (event ∷ before) (rises first is)
  where
    weaker : (first : ℕ) → n < first → (es : List Traced) → AllByRecursion (λ (e : Traced). first ≤ e.stamp) es → AllByRecursion (λ (e : Traced). n < e.stamp) es
    weaker first low [] all = tt
    weaker first low (e ∷ es) all = (omega (arith, low, all.0), weaker first low es all.1)

pub no-earlier : (n : ℕ) (events : List Traced) → AllByRecursion (λ (e : Traced). n < e.stamp) events → AllByRecursion (λ (e : Traced). n ≤ e.stamp) events
no-earlier n [] all = tt
no-earlier n (e ∷ events) all = (omega (arith, all.0), no-earlier n events all.1)

-- ---- what was read

or-assoc : {T : Type 0} (a b c : Option T) → option_or (option_or a b) c ≡ option_or a (option_or b c)
or-assoc None b c = refl
or-assoc (Some x) b c = refl

or-none : {T : Type 0} (o : Option T) → option_or o None ≡ o
or-none None = refl
or-none (Some x) = refl

bad-as : (lines number all : ℕ) (given : Result Line LineFault) (o : Option BadLine) → all ≡ min (number + lines) most
    → option_or (option_map (bad_behind lines) o) (bad_at all given) ≡ option_map (bad_behind lines) (option_or o (bad_at number given))
bad-as lines number all given (Some x) is = refl
bad-as lines number all (Ok line) None is = refl
bad-as lines number all (Err fault) None is = ap (λ (n : ℕ). Some (record { line = n; fault = fault })) is

first-bad-behind : (own before : List (List ℕ)) → length own + length before ≤ number_limit → first_bad (own ++ before) ≡ option_or (first_bad before) (option_map (bad_behind (length before)) (first_bad own))
unfolding first_bad
first-bad-behind [] before fits = sym (or-none (first_bad before))
first-bad-behind (line ∷ own) before fits =
    let size = length-append own before in
    let number : suc (length (own ++ before)) ≡ min (suc (length own) + length before) most = omega (arith, size, fits) in
    ap (λ (o : Option BadLine). option_or o (bad_at (suc (length (own ++ before))) (line_of line))) (first-bad-behind own before (omega (arith, fits)))
    ∙ or-assoc (first_bad before) (option_map (bad_behind (length before)) (first_bad own)) (bad_at (suc (length (own ++ before))) (line_of line))
    ∙ ap (option_or (first_bad before)) (bad-as (length before) (suc (length own)) (suc (length (own ++ before))) (line_of line) (first_bad own) number)

pub read-behind : (own before : List (List ℕ)) → length own + length before ≤ number_limit → lines_read (own ++ before) ≡ lines_with (lines_read before) (lines_read own)
unfolding lines_read
read-behind own before fits =
    let size = length-append own before in
    let bad = sum_by-append (λ (l : List ℕ). cond (is_bad (line_of l)) 1 0) own before in
    let few = count_by-le-length (λ (l : List ℕ). is_bad (line_of l)) own in
    let few_before = count_by-le-length (λ (l : List ℕ). is_bad (line_of l)) before in
    let all : length (own ++ before) ≡ min (length before + length own) most = omega (arith, size, fits) in
    let all_bad : count_by (λ (l : List ℕ). is_bad (line_of l)) (own ++ before) ≡ min (count_by (λ (l : List ℕ). is_bad (line_of l)) before + count_by (λ (l : List ℕ). is_bad (line_of l)) own) most = omega (arith, bad, few, few_before, fits) in
    (λ i. record { lines = all i; bad = all_bad i; first = first-bad-behind own before fits i })
