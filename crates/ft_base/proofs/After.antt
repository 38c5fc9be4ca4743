-- What an edit answers, case by case.
use Rattle.std.proofs.Common.{◌≡◌, ℕ, ◌+◌, ◌<◌, ◌≤◌, Bool, true, false, cond, ◌||◌, ltb, leb, List, length, refl, sym, ap, ◌∙◌, subst, Option, Some, None, Result, Ok, Err, is_err, OnErr}
use Rattle.std.specs.List.{AllByRecursion}
use Rattle.std.specs.Option.{option_map_or}
use Rattle.std.specs.FinMap as map
use Rattle.std.proofs.lemmas.Bool.{le-ltb, lt-ltb, le-leb, lt-leb, ltb-false, leb-false, or_parts, or_left, or_right}
use Rattle.ft_fields.specs.Traced.{Traced}
use Rattle.ft_hist.specs.Hist.{Hist}
use Rattle.ft_base.specs.declared.refused.Refused.{Refused}
use Rattle.ft_base.specs.declared.refused.Refused.TheVariants.{LaneHeld, Full, TooManyTriggers}
use Rattle.ft_lanes.specs.Held.{event_limit, held_in}
use Rattle.ft_base.specs.Base.{Base, id_limit, trigger_limit}
use Rattle.ft_lanes.specs.Loaded.{with_lanes, first_held}
use Rattle.ft_base.specs.After.{after_load, after_attach, variable_refusal}
use Rattle.ft_lanes.specs.Held.{HasCpu}
use Rattle.ft_base.specs.Reachable.{IsReachable}
use Rattle.ft_base.proofs.Reachable.{load-IsReachable}
use Rattle.ft_base.proofs.Attaching.{attach-IsReachable}

-- a clause on failure, if a call failed
pub at_err : {T E P : Type 0} (r : Result T E) → true ≡ is_err r → OnErr r P → P
at_err (Ok x) e h = cc
at_err (Err y) e h = h

-- the cases of a load, by the CPU that is held and by the test of the total
abbrev loaded : Base → List Traced → Option ℕ → Bool → Result (Base × ℕ) Refused
loaded base es held full = option_map_or (λ cpu. Err (LaneHeld cpu)) held (cond full (Err Full) (Ok (record base { lanes = with_lanes base.lanes es }, length es)))

abbrev is_full : Base → List Traced → Bool
is_full base es = ltb event_limit (held_in base.lanes + length es)

after_load-cases : (base : Base) (es : List Traced) → after_load base es ≡ loaded base es (first_held base.lanes es) (is_full base es)
unfolding after_load
after_load-cases base es = refl

pub load-held : (base : Base) (es : List Traced) (cpu : ℕ) → Some cpu ≡ first_held base.lanes es → after_load base es ≡ Err (LaneHeld cpu)
load-held base es cpu held = after_load-cases base es ∙ ap (λ o. loaded base es o (is_full base es)) (sym held)

pub load-full : (base : Base) (es : List Traced) → None ≡ first_held base.lanes es → event_limit < held_in base.lanes + length es → after_load base es ≡ Err Full
load-full base es free full = after_load-cases base es ∙ ap (λ o. loaded base es o (is_full base es)) (sym free) ∙ ap (loaded base es None) (lt-ltb _ _ full)

pub load-ok : (base : Base) (es : List Traced) → None ≡ first_held base.lanes es → held_in base.lanes + length es ≤ event_limit → after_load base es ≡ Ok (record base { lanes = with_lanes base.lanes es }, length es)
load-ok base es free few = after_load-cases base es ∙ ap (λ o. loaded base es o (is_full base es)) (sym free) ∙ ap (loaded base es None) (le-ltb _ _ few)

abbrev answered : {T : Type 0} → Base → T → Result (Base × T) Refused
answered base value = Ok (base, value)

abbrev base_of : {T : Type 0} → Base → Result (Base × T) Refused → Base
base_of other (Ok answer) = answer.0
base_of other (Err refused) = other

pub same-base : {T : Type 0} (x y : Base) (m n : T) → answered x m ≡ answered y n → x ≡ y
same-base x y m n e = ap (base_of x) e

pub load-reachable : (base : Base) (es : List Traced) (new : Base) (count : ℕ) → IsReachable base → AllByRecursion HasCpu es → after_load base es ≡ Ok (new, count) → IsReachable new
load-reachable base es new count is at answer =
    elim (first_held base.lanes es) as (λ o. first_held base.lanes es ≡ o → loaded base es o (is_full base es) ≡ Ok (new, count) → IsReachable new) [
      | Some cpu ↦ λ _ e. cc
      | None ↦ λ free. elim (is_full base es) as (λ b. is_full base es ≡ b → loaded base es None b ≡ Ok (new, count) → IsReachable new) [
        | true ↦ λ _ e. cc
        | false ↦ λ few e. subst IsReachable (same-base _ new (length es) count e) (load-IsReachable base es is at free (ltb-false event_limit (held_in base.lanes + length es) few))
      ] refl
    ] refl (sym (after_load-cases base es) ∙ answer)

-- if a load is not refused, no event's lane was held, and this is the base that it gives
pub load-gives : (base : Base) (es : List Traced) (new : Base) (count : ℕ) → after_load base es ≡ Ok (new, count) → (first_held base.lanes es ≡ None) × (record base { lanes = with_lanes base.lanes es } ≡ new)
load-gives base es new count answer =
    elim (first_held base.lanes es) as (λ o. loaded base es o (is_full base es) ≡ Ok (new, count) → (o ≡ None) × (record base { lanes = with_lanes base.lanes es } ≡ new)) [
      | Some cpu ↦ λ e. cc
      | None ↦ λ e. (
        refl,
        elim (is_full base es) as (λ b. loaded base es None b ≡ Ok (new, count) → record base { lanes = with_lanes base.lanes es } ≡ new) [
          | true ↦ λ full. cc
          | false ↦ λ few. same-base _ new (length es) count few
        ] e,
      )
    ] (sym (after_load-cases base es) ∙ answer)

-- the cases of an attachment, by the test of what is used up and by what stands against its variable
abbrev attached : Base → Hist → Bool → Option Refused → Result (Base × ℕ) Refused
attached base hist used refused =
    cond used (Err TooManyTriggers)
    (option_map_or Err refused (Ok (record base { triggers = map.insert base.triggers base.next_id hist; next_id = base.next_id + 1 }, base.next_id)))

abbrev is_used : Base → Bool
is_used base = leb trigger_limit (map.len base.triggers) || ltb id_limit base.next_id

abbrev against : Base → Hist → Option Refused
against base hist = variable_refusal base.triggers hist hist.variable

after_attach-cases : (base : Base) (hist : Hist) → after_attach base hist ≡ attached base hist (is_used base) (against base hist)
unfolding after_attach
after_attach-cases base hist = refl

pub attach-many : (base : Base) (hist : Hist) → trigger_limit ≤ map.len base.triggers → after_attach base hist ≡ Err TooManyTriggers
attach-many base hist many = after_attach-cases base hist ∙ ap (λ b. attached base hist b (against base hist)) (or_left _ _ (le-leb trigger_limit (map.len base.triggers) many))

pub attach-high : (base : Base) (hist : Hist) → id_limit < base.next_id → after_attach base hist ≡ Err TooManyTriggers
attach-high base hist high = after_attach-cases base hist ∙ ap (λ b. attached base hist b (against base hist)) (or_right _ _ (lt-ltb id_limit base.next_id high))

unused : (base : Base) → map.len base.triggers < trigger_limit → base.next_id ≤ id_limit → is_used base ≡ false
unused base few low = λ i. lt-leb trigger_limit (map.len base.triggers) few i || le-ltb id_limit base.next_id low i

pub attach-against : (base : Base) (hist : Hist) (refused : Refused) → map.len base.triggers < trigger_limit → base.next_id ≤ id_limit → against base hist ≡ Some refused → after_attach base hist ≡ Err refused
attach-against base hist refused few low stands =
    after_attach-cases base hist ∙ ap (λ b. attached base hist b (against base hist)) (unused base few low) ∙ ap (attached base hist false) stands

pub attach-ok : (base : Base) (hist : Hist) → map.len base.triggers < trigger_limit → base.next_id ≤ id_limit → against base hist ≡ None → after_attach base hist ≡ Ok (record base { triggers = map.insert base.triggers base.next_id hist; next_id = base.next_id + 1 }, base.next_id)
attach-ok base hist few low none =
    after_attach-cases base hist ∙ ap (λ b. attached base hist b (against base hist)) (unused base few low) ∙ ap (attached base hist false) none

pub attach-reachable : (base : Base) (hist : Hist) (new : Base) (id : ℕ) → IsReachable base → after_attach base hist ≡ Ok (new, id) → IsReachable new
attach-reachable base hist new id is answer =
    elim (is_used base) as (λ b. is_used base ≡ b → attached base hist b (against base hist) ≡ Ok (new, id) → IsReachable new) [
      | true ↦ λ _ e. cc
      | false ↦ λ free. elim (against base hist) as (λ o. against base hist ≡ o → attached base hist false o ≡ Ok (new, id) → IsReachable new) [
        | Some refused ↦ λ _ e. cc
        | None ↦ λ stands e.
            let parts = or_parts _ _ free in
            subst IsReachable (same-base _ new base.next_id id e) (attach-IsReachable base hist is (leb-false trigger_limit (map.len base.triggers) parts.0) (ltb-false id_limit base.next_id parts.1) stands)
      ] refl
    ] refl (sym (after_attach-cases base hist) ∙ answer)
