-- What each CPU runs, and which switches are missing, after one note more.
use Rattle.std.specs.Prelude.{◌≡◌, ◌<◌, ◌≤◌, ℕ, suc, ℤ, Bool, true, false, List, [], ◌∷◌, ◌++◌, length, Option, Some, None, Result, Ok, Err, if◌then◌else◌}
use Rattle.std.proofs.Common.{refl, sym, ap, ◌∙◌, set, eqb, inl, inr, arith}
use Rattle.std.proofs.lemmas.Bool.{cases_eq, eq-eqb, false_from_ne_true, eqb-true}
use Rattle.std.proofs.lemmas.List.{get_or-set_other}
use Rattle.std.proofs.lemmas.Grind.{get_or-set_at}
use Rattle.ft_event.specs.declared.fault.Line.{Line}
use Rattle.ft_event.specs.declared.fault.Line.TheVariants as lines
use Rattle.ft_event.specs.declared.fault.LineFault.{LineFault}
use Rattle.ft_event.specs.Line.{line_of}
use Rattle.ft_fields.specs.Traced.{Traced}
use Rattle.ft_fields.specs.declared.pos.Pos.{Pos}
use Rattle.ft_losses.specs.Notes.{Note, NoteBy, AreNotes, Passed, Marked, Silent}
use Rattle.ft_waits.specs.Missing.{passed, passed_after, runs_after, running, is_other, with_event, missing_in}
use Rattle.ft_waits.specs.Reading.{events_of, place_after, with_line}
use Rattle.ft_waits.specs.inner.Known.{IsNumbered}
use Rattle.ft_waits.specs.declared.missing.Missing.{Missing}
use Rattle.ft_waits.specs.declared.ran.Ran.{Ran}
use Rattle.ft_waits.specs.declared.ran.Ran.TheVariants as rans
use Rattle.ft_waits.specs.inner.Running.{RunsTasks}

-- ---- the events among notes

one-passed : (given : Result Line LineFault) (line : List ℕ) (note : Note) (events before : List Traced) → NoteBy given line note → events ≡ before → passed_after note events ≡ with_line given before
one-passed (Ok (lines.Event event)) line note events before by same = ap (λ (n : Note). passed_after n events) by ∙ ap (λ (es : List Traced). event ∷ es) same
one-passed (Ok lines.Skip) line (Passed event) events before by same = absurd by
one-passed (Ok lines.Skip) line (Marked mark) events before by same = same
one-passed (Ok lines.Skip) line Silent events before by same = same
one-passed (Err fault) line note events before by same = ap (λ (n : Note). passed_after n events) by ∙ same

-- they are those of the lines
pub passed-is : (lines : List (List ℕ)) (notes : List Note) → AreNotes lines notes → passed notes ≡ events_of lines
unfolding passed events_of
passed-is [] notes none = ap passed none
passed-is (line ∷ before) [] wrong = absurd wrong
passed-is (line ∷ before) (note ∷ notes) are = one-passed (line_of line) line note (passed notes) (events_of before) are.0 (passed-is before notes are.1)

pub passed-both : (part before : List Note) → passed (part ++ before) ≡ passed part ++ passed before
unfolding passed
passed-both [] before = refl
passed-both (Passed event ∷ part) before = ap (λ (es : List Traced). event ∷ es) (passed-both part before)
passed-both (Marked mark ∷ part) before = passed-both part before
passed-both (Silent ∷ part) before = passed-both part before

-- ---- what CPUs run

pub runs-more : (kept : List (Option Ran)) (before : List Note) (e : Traced) (ran : ℤ) → RunsTasks kept before → e.cpu < length kept → ran ≡ runs_after e → RunsTasks (set kept e.cpu (Some (rans.Task ran))) (Passed e ∷ before)
unfolding running
runs-more kept before e ran runs within is cpu fits = elim (cases_eq e.cpu cpu) [
  | inl same ↦ get_or-set_at kept e.cpu cpu (Some (rans.Task ran)) None (sym same) within ∙ ap (λ (p : ℤ). Some (rans.Task p)) is
      ∙ sym (ap (λ b. if b then Some (rans.Task (runs_after e)) else running cpu before) (eq-eqb e.cpu cpu same))
  | inr apart ↦ get_or-set_other kept e.cpu cpu (Some (rans.Task ran)) None (λ same. apart (sym same)) ∙ runs cpu fits
      ∙ sym (ap (λ b. if b then Some (rans.Task (runs_after e)) else running cpu before) (false_from_ne_true (eqb e.cpu cpu) (λ hit. apart (eqb-true _ _ hit))))
]

-- ---- what is missing

-- what was noticed after one event more
pub noticed : (e : Traced) (before : List Note) (place : Pos) (new old : Missing) → place ≡ place_after (passed before) e → old ≡ missing_in before
    → new ≡ with_event (is_other (running e.cpu before) e.pid) place old → new ≡ missing_in (Passed e ∷ before)
unfolding missing_in
noticed e before place new old at so_far is =
    is ∙ ap (λ (p : Pos). with_event (is_other (running e.cpu before) e.pid) p old) at ∙ ap (with_event (is_other (running e.cpu before) e.pid) (place_after (passed before) e)) so_far

-- no more than one for each event
one-more : (b : Bool) (place : Pos) (missing : Missing) (n : ℕ) → missing.switches ≤ n → (with_event b place missing).switches ≤ suc n
one-more false place missing n most = omega (arith, most)
one-more true place missing n most = omega (arith, most)

pub at-most : (notes : List Note) → (missing_in notes).switches ≤ length (passed notes)
unfolding missing_in passed
at-most [] = omega arith
at-most (Passed e ∷ before) = one-more (is_other (running e.cpu before) e.pid) (place_after (passed before) e) (missing_in before) (length (passed before)) (at-most before)
at-most (Marked mark ∷ before) = at-most before
at-most (Silent ∷ before) = at-most before

pub full-missing : (missing : Missing) (notes : List Note) → missing ≡ missing_in notes → missing.switches ≡ 18446744073709551615 → IsNumbered (passed notes)
full-missing missing notes is full =
    let same = ap (λ (m : Missing). m.switches) is in
    let most = at-most notes in
    omega (arith, same, most, full)
