-- No two acts stand at one place.
use Rattle.std.specs.Prelude.{◌≡◌, ◌≤◌, ℕ, suc, false, List, [], ◌∷◌, ◌++◌, Option, Some, None}
use Rattle.std.specs.List.{AllByRecursion, IsDistinct}
use Rattle.std.specs.Map.{keys_of}
use Rattle.std.specs.Ordering.{eq_by_cmp}
use Rattle.std.proofs.Common.{refl, sym, ap, subst, arith}
use Rattle.std.proofs.lemmas.Bool.{false_from_ne_true}
use Rattle.ft_maps.specs.Entries.{same_from_tie}
use Rattle.ft_fields.specs.Traced.{Traced}
use Rattle.ft_fields.specs.Places.{pos_cmp, pos_same}
use Rattle.ft_fields.specs.declared.pos.Pos.{Pos}
use Rattle.ft_dispatch.specs.Acts.{Act}
use Rattle.ft_waits.specs.LeftOut.{act_without}
use Rattle.ft_waits.specs.Reading.{place_after, act_at, acts_of}
use Rattle.ft_waits.specs.declared.left_out.Without.{Without}
use Rattle.ft_waits.proofs.Counting.{of_cpu, of_own, of_more}

-- an act's line is at most the number of its CPU's events
abbrev IsWithin : List Traced → Pos × Act → Type 0
IsWithin events entry = entry.0.line ≤ of_cpu entry.0.cpu events

later : (e : Traced) (before : List Traced) (acts : List (Pos × Act)) → AllByRecursion (IsWithin before) acts → AllByRecursion (IsWithin (e ∷ before)) acts
later e before [] h = tt
later e before (x ∷ acts) h =
    let more = of_more e x.0.cpu before in
    let low = h.0 in
    (omega (arith, low, more), later e before acts h.1)

with-act : (e : Traced) (before : List Traced) (act : Option Act) (acts : List (Pos × Act)) → AllByRecursion (IsWithin (e ∷ before)) acts → AllByRecursion (IsWithin (e ∷ before)) (act_at (place_after before e) act ++ acts)
with-act e before None acts h = h
with-act e before (Some act) acts h =
    let own = of_own e e.cpu before refl in
    (omega (arith, own), h)

all-within : (without : List Without) (events : List Traced) → AllByRecursion (IsWithin events) (acts_of without events)
unfolding acts_of
all-within without [] = tt
all-within without (e ∷ before) = with-act e before (act_without without e) (acts_of without before) (later e before (acts_of without before) (all-within without before))

-- a place past all of its CPU's is another one
apart : (place : Pos) (x : Pos) (n : ℕ) → place.line ≡ suc n → (place ≡ x → x.line ≤ n) → eq_by_cmp pos_cmp place x ≡ false
apart place x n is low = false_from_ne_true (eq_by_cmp pos_cmp place x) (λ tie.
    let same = same_from_tie pos_same place x tie in
    let line = ap (λ (p : Pos). p.line) same in
    let most = low same in
    omega (arith, is, line, most))

past : (e : Traced) (before : List Traced) (acts : List (Pos × Act)) → AllByRecursion (IsWithin before) acts → AllByRecursion (λ k. eq_by_cmp pos_cmp (place_after before e) k ≡ false) (keys_of acts)
past e before [] h = tt
past e before (x ∷ acts) h =
    (apart (place_after before e) x.0 (of_cpu e.cpu before) refl (λ same. subst (λ (cpu : ℕ). x.0.line ≤ of_cpu cpu before) (sym (ap (λ (p : Pos). p.cpu) same)) h.0), past e before acts h.1)

with-distinct : (place : Pos) (act : Option Act) (acts : List (Pos × Act)) → AllByRecursion (λ k. eq_by_cmp pos_cmp place k ≡ false) (keys_of acts) → IsDistinct (eq_by_cmp pos_cmp) (keys_of acts) → IsDistinct (eq_by_cmp pos_cmp) (keys_of (act_at place act ++ acts))
unfolding IsDistinct
with-distinct place None acts h distinct = distinct
with-distinct place (Some act) acts h distinct = (h, distinct)

-- the places of acts differ
pub acts-distinct : (without : List Without) (events : List Traced) → IsDistinct (eq_by_cmp pos_cmp) (keys_of (acts_of without events))
unfolding acts_of IsDistinct
acts-distinct without [] = tt
acts-distinct without (e ∷ before) =
    with-distinct (place_after before e) (act_without without e) (acts_of without before) (past e before (acts_of without before) (all-within without before)) (acts-distinct without before)
