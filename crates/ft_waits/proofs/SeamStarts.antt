-- Which switches are missing in a part behind the notes before it.
use Rattle.std.specs.Prelude.{◌≡◌, ◌≤◌, ◌+◌, ◌==◌, ◌&&◌, min, ℕ, ℤ, Bool, true, false, List, [], ◌∷◌, ◌++◌, length, reverse, Option, Some, None, option_map, if◌then◌else◌}
use Rattle.std.specs.Option.{option_or, is_none}
use Rattle.std.specs.List.{AllByRecursion}
use Rattle.std.proofs.Common.{refl, sym, ap, ◌∙◌, arith, cond}
use Rattle.std.proofs.lemmas.List.{append-nil, reverse-append, length-append}
use Rattle.ft_event.specs.declared.mark.Mark.TheVariants as marks
use Rattle.ft_fields.specs.Traced.{Traced, last_cpu}
use Rattle.ft_fields.specs.declared.pos.Pos.{Pos}
use Rattle.ft_dispatch.specs.Joining.{place_behind}
use Rattle.ft_losses.specs.Notes.{Note, Passed, Marked, Silent}
use Rattle.ft_losses.specs.Telling.{IsOnCpu}
use Rattle.ft_waits.specs.Missing.{passed, running, running_after, runs_after, is_other, with_event, missing_in}
use Rattle.ft_waits.specs.Reading.{place_after, number_limit, CountsEvents}
use Rattle.ft_waits.specs.inner.Starts.{most, started, start_of, starts_of, Seam, with_start, seam_after, seam, missing_with}
use Rattle.ft_waits.specs.declared.missing.Missing.{Missing}
use Rattle.ft_waits.specs.declared.ran.Ran.{Ran}
use Rattle.ft_waits.specs.declared.ran.Ran.TheVariants as rans
use Rattle.ft_waits.specs.declared.starts.Start.{Start}
use Rattle.ft_waits.proofs.Noticing.{at-most, passed-both}
use Rattle.ft_waits.proofs.Shifted.{place-behind-is}

-- one event more
one-start : (ran : Option Ran) (start : Start) (starts : List Start) → reverse (started ran start ++ starts) ≡ reverse starts ++ started ran start
one-start None start starts = reverse-append (start ∷ []) starts
one-start (Some pid) start starts = sym (append-nil (reverse starts))

pub starts-more : (before : List Note) (event : Traced) → reverse (starts_of (Passed event ∷ before)) ≡ reverse (starts_of before) ++ started (running event.cpu before) (start_of event.pid (place_after (passed before) event) (missing_in before))
unfolding starts_of
starts-more before event = one-start (running event.cpu before) (start_of event.pid (place_after (passed before) event) (missing_in before)) (starts_of before)

-- ---- options

or-assoc : {T : Type 0} (a b c : Option T) → option_or (option_or a b) c ≡ option_or a (option_or b c)
or-assoc None b c = refl
or-assoc (Some x) b c = refl

map-or : (move : Pos → Pos) (o : Option Pos) (place : Pos) → option_or (option_map move o) (Some (move place)) ≡ option_map move (option_or o (Some place))
map-or move None place = refl
map-or move (Some x) place = refl

none-of-both : (move : Pos → Pos) (own before : Option Pos) → is_none (option_or before (option_map move own)) ≡ (is_none own && is_none before)
none-of-both move None None = refl
none-of-both move None (Some x) = refl
none-of-both move (Some y) None = refl
none-of-both move (Some y) (Some x) = refl

-- ---- one event more of a part

module _ (move : Pos → Pos) (pid : ℤ) (place behind : Pos) (own whole : Missing) (before : Seam) (is : whole ≡ missing_with move before.missing own) (at : behind ≡ move place) (fits : whole.switches + 1 ≤ most) where
  sum-is : whole.switches ≡ min (before.missing.switches + own.switches) most
  sum-is = ap (λ (m : Missing). m.switches) is

  -- one that isn't the first of its CPU in the part
  event-both : (other : Bool) → with_event other behind whole ≡ missing_with move before.missing (with_event other place own)
  event-both false = is
  event-both true =
      let sum = sum-is in
      let count : whole.switches + 1 ≡ min (before.missing.switches + (own.switches + 1)) most = omega (arith, sum, fits) in
      let first : option_or whole.first (Some behind) ≡ option_or before.missing.first (option_map move (option_or own.first (Some place))) =
      ap (λ (m : Missing). option_or m.first (Some behind)) is
      ∙ ap (λ (p : Pos). option_or (option_or before.missing.first (option_map move own.first)) (Some p)) at
      ∙ or-assoc before.missing.first (option_map move own.first) (Some (move place))
      ∙ ap (option_or before.missing.first) (map-or move own.first place) in
      (λ i. record { switches = count i; first = first i })

  -- one that is, on a CPU that ran a task before
  first-at : (first : Option Pos) (o : Option Pos) → o ≡ option_or before.missing.first (option_map move first)
      → option_or o (Some behind) ≡ option_or (if is_none first then option_or before.missing.first (Some (move place)) else before.missing.first) (option_map move first)
  first-at None o same =
      ap (λ (x : Option Pos). option_or x (Some behind)) same ∙ ap (λ (p : Pos). option_or (option_or before.missing.first None) (Some p)) at
      ∙ or-assoc before.missing.first None (Some (move place)) ∙ sym (or-nothing (option_or before.missing.first (Some (move place))))
    where
      or-nothing : (x : Option Pos) → option_or x None ≡ x
      or-nothing None = refl
      or-nothing (Some y) = refl
  first-at (Some x) o same =
      ap (λ (y : Option Pos). option_or y (Some behind)) same ∙ or-assoc before.missing.first (Some (move x)) (Some behind)

  start-both : (other : Bool) → with_event other behind whole ≡ missing_with move (with_start other (is_none own.first) (move place) before.missing) own
  start-both false = is
  start-both true =
      let sum = sum-is in
      let count : whole.switches + 1 ≡ min (min (before.missing.switches + 1) most + own.switches) most = omega (arith, sum, fits) in
      let first = first-at own.first whole.first (ap (λ (m : Missing). m.first) is) in
      (λ i. record { switches = count i; first = first i })

-- what is taken of one event more, by the tasks that its CPU ran before it in the part, and before the part
abbrev pub taken : Option Ran → Option Ran → Pos → Start → Seam → Seam
taken None ran place start before = seam_after ran place start before
taken (Some own) ran place start before = before

taken-is : (ran : ℕ → Option Ran) (move : Pos → Pos) (before : Seam) (own : Option Ran) (start : Start) (starts : List Start)
    → seam ran move before (started own start ++ starts) ≡ taken own (ran start.place.cpu) (move start.place) start (seam ran move before starts)
unfolding seam
taken-is ran move before None start starts = refl
taken-is ran move before (Some pid) start starts = refl

one-missing : (move : Pos → Pos) (pid : ℤ) (place behind : Pos) (own whole : Missing) (before : Seam) → whole ≡ missing_with move before.missing own → behind ≡ move place → whole.switches + 1 ≤ most → (ran ran_before : Option Ran)
    → with_event (is_other (option_or ran ran_before) pid) behind whole ≡ missing_with move (taken ran ran_before (move place) (start_of pid place own) before).missing (with_event (is_other ran pid) place own)
one-missing move pid place behind own whole before is at fits (Some r) ran_before = event-both move pid place behind own whole before is at fits (is_other (Some r) pid)
one-missing move pid place behind own whole before is at fits None None = is
one-missing move pid place behind own whole before is at fits None (Some r) = start-both move pid place behind own whole before is at fits (is_other (Some r) pid)

one-started : (move : Pos → Pos) (pid : ℤ) (place behind : Pos) (own whole : Missing) (before : Seam) (starts : List Start) → whole ≡ missing_with move before.missing own → behind ≡ move place → reverse starts ≡ before.starts → (ran ran_before : Option Ran)
    → reverse starts ++ started (option_or ran ran_before) (start_of pid behind whole) ≡ (taken ran ran_before (move place) (start_of pid place own) before).starts
one-started move pid place behind own whole before starts is at same (Some r) ran_before = append-nil (reverse starts) ∙ same
one-started move pid place behind own whole before starts is at same None (Some r) = append-nil (reverse starts) ∙ same
one-started move pid place behind own whole before starts is at same None None =
    ap (λ (ss : List Start). ss ++ start_of pid behind whole ∷ []) same
    ∙ ap (λ (p : Pos). before.starts ++ start_of pid p whole ∷ []) at
    ∙ ap (λ (b : Bool). before.starts ++ record { pid = pid; place = move place; is_clear = b } ∷ []) (ap (λ (m : Missing). is_none m.first) is ∙ none-of-both move own.first before.missing.first)

-- ---- running tasks

run-or : (b : Bool) (ran : Ran) (own before : Option Ran) → cond b (Some ran) (option_or own before) ≡ option_or (cond b (Some ran) own) before
run-or true ran own before = refl
run-or false ran own before = refl

note-or : (cpu : ℕ) (note : Note) (own before : Option Ran) → running_after cpu note (option_or own before) ≡ option_or (running_after cpu note own) before
note-or cpu (Passed event) own before = run-or (event.cpu == cpu) (rans.Task (runs_after event)) own before
note-or cpu (Marked (marks.Lost of count)) own before = run-or (of == cpu) rans.Lost own before
note-or cpu (Marked (marks.Started of)) own before = run-or (of == cpu) rans.Lost own before
note-or cpu (Marked (marks.Overwritten of count)) own before = refl
note-or cpu (Marked (marks.Written held written)) own before = refl
note-or cpu Silent own before = refl

pub running-behind : (cpu : ℕ) (part before : List Note) → running cpu (part ++ before) ≡ option_or (running cpu part) (running cpu before)
unfolding running
running-behind cpu [] before = refl
running-behind cpu (note ∷ part) before = ap (running_after cpu note) (running-behind cpu part before) ∙ note-or cpu note (running cpu part) (running cpu before)

-- a part without events
pub nothing-missing : (before part : List Note) → passed part ≡ [] → (missing_in (part ++ before) ≡ missing_in before) × (starts_of (part ++ before) ≡ starts_of before)
unfolding missing_in starts_of passed
nothing-missing before [] none = (refl, refl)
nothing-missing before (Passed event ∷ part) none = absurd cc
nothing-missing before (Marked mark ∷ part) none = nothing-missing before part none
nothing-missing before (Silent ∷ part) none = nothing-missing before part none

-- ---- the whole part

module _ (counts : List ℕ) (before : List Note) (counted : CountsEvents counts (passed before)) where
  abbrev pub move : Pos → Pos
  move = place_behind counts

  -- what is known before the part, and as its first events are taken
  abbrev pub first_seam : Seam
  first_seam = record { missing = missing_in before; starts = reverse (starts_of before) }

  abbrev pub seam_of : List Note → Seam
  seam_of part = seam (λ cpu. running cpu before) move first_seam (starts_of part)

  -- what is missing in the notes of a part and those before it, and the first events of CPUs
  abbrev AreBoth : List Note → Type 0
  AreBoth part = (missing_in (part ++ before) ≡ missing_with move (seam_of part).missing (missing_in part)) × (reverse (starts_of (part ++ before)) ≡ (seam_of part).starts)

  one-event : (event : Traced) (part : List Note) → length (event ∷ passed part) + length (passed before) ≤ number_limit → event.cpu ≤ last_cpu → AreBoth part → AreBoth (Passed event ∷ part)
  unfolding missing_in starts_of
  one-event event part fits low rest =
      let whole = missing_in (part ++ before) in
      let own = missing_in part in
      let so_far = seam_of part in
      let both = passed-both part before in
      let place = place_after (passed part) event in
      let behind = place_after (passed (part ++ before)) event in
      let at : behind ≡ move place = ap (λ (es : List Traced). place_after es event) both ∙ sym (place-behind-is counts (passed before) (passed part) event counted low fits) in
      let few = at-most (part ++ before) in
      let size = ap (λ (es : List Traced). length es) both ∙ length-append (passed part) (passed before) in
      let room : whole.switches + 1 ≤ most = omega (arith, few, size, fits) in
      let start = start_of event.pid place own in
      let ran = running-behind event.cpu part before in
      let is_taken : seam_of (Passed event ∷ part) ≡ taken (running event.cpu part) (running event.cpu before) (move place) start so_far =
      taken-is (λ cpu. running cpu before) move first_seam (running event.cpu part) start (starts_of part) in (
        ap (λ (o : Option Ran). with_event (is_other o event.pid) behind whole) ran
            ∙ one-missing move event.pid place behind own whole so_far rest.0 at room (running event.cpu part) (running event.cpu before)
            ∙ ap (λ (s : Seam). missing_with move s.missing (with_event (is_other (running event.cpu part) event.pid) place own)) (sym is_taken),
        starts-more (part ++ before) event
            ∙ ap (λ (o : Option Ran). reverse (starts_of (part ++ before)) ++ started o (start_of event.pid behind whole)) ran
            ∙ one-started move event.pid place behind own whole so_far (starts_of (part ++ before)) rest.0 at rest.1 (running event.cpu part) (running event.cpu before)
            ∙ ap (λ (s : Seam). s.starts) (sym is_taken),
      )

  pub missing-joined : (part : List Note) → length (passed part) + length (passed before) ≤ number_limit → AllByRecursion IsOnCpu part → AreBoth part
  unfolding missing_in starts_of seam passed
  missing-joined [] fits cpus =
      let few = at-most before in
      let m = missing_in before in
      let count : m.switches ≡ min (m.switches + 0) most = omega (arith, few, fits) in
      ((λ i. record { switches = count i; first = sym (or-none m.first) i }), refl)
    where
      or-none : (o : Option Pos) → option_or o None ≡ o
      or-none None = refl
      or-none (Some x) = refl
  missing-joined (Passed event ∷ part) fits cpus =
      let less : length (passed part) + length (passed before) ≤ number_limit = omega (arith, fits) in
      one-event event part fits cpus.0 (missing-joined part less cpus.1)
  missing-joined (Marked mark ∷ part) fits cpus = missing-joined part fits cpus.1
  missing-joined (Silent ∷ part) fits cpus = missing-joined part fits cpus.1
