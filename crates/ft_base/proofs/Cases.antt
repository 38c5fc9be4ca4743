-- What unloading, inserting, striking, giving a filter and removing answer, case by case.
use Rattle.std.proofs.Common.{◌≡◌, ℕ, ◌<◌, ◌≤◌, Bool, true, false, cond, ◌||◌, ltb, leb, refl, sym, ap, subst, ◌∙◌, Option, Some, None, Result, Ok, Err}
use Rattle.std.specs.Option.{option_map_or}
use Rattle.std.specs.FinMap as map
use Rattle.std.proofs.lemmas.Bool.{le-ltb, lt-ltb, le-leb, lt-leb, ltb-false, leb-false, or_parts, or_left, or_right}
use Rattle.ft_fields.specs.Traced.{Traced}
use Rattle.ft_filter.specs.Tree.{Tree}
use Rattle.ft_hist.specs.Hist.{Hist, with_filter}
use Rattle.ft_lanes.specs.Held.{Lane, HasCpu, event_limit, number_limit, held_in}
use Rattle.ft_lanes.specs.Edits.{lane_or_new, lanes_with, lanes_without}
use Rattle.ft_base.specs.declared.refused.Place.{Place}
use Rattle.ft_base.specs.declared.refused.Refused.{Refused}
use Rattle.ft_base.specs.declared.refused.Refused.TheVariants.{NoLane, NoEvent, Full, NoTrigger, InUse}
use Rattle.ft_base.specs.Base.{Base}
use Rattle.ft_base.specs.After.{after_unload, after_insert, after_strike, after_refilter, after_remove, reader_on}
use Rattle.ft_base.specs.Reachable.{IsReachable}
use Rattle.ft_base.proofs.LaneEdits.{unload-IsReachable, insert-IsReachable, strike-IsReachable}
use Rattle.ft_base.proofs.TriggerEdits.{refilter-IsReachable, remove-IsReachable}
use Rattle.ft_base.proofs.After.{same-base}

-- ---- unloading, by the lane that is held

abbrev unloaded : Base → ℕ → Option Lane → Result (Base × ℕ) Refused
unloaded base cpu held = option_map_or (λ lane. Ok (record base { lanes = map.remove base.lanes cpu }, map.len lane.events)) held (Err (NoLane cpu))

after_unload-cases : (base : Base) (cpu : ℕ) → after_unload base cpu ≡ unloaded base cpu (map.get base.lanes cpu)
unfolding after_unload
after_unload-cases base cpu = refl

pub unload-none : (base : Base) (cpu : ℕ) → map.get base.lanes cpu ≡ None → after_unload base cpu ≡ Err (NoLane cpu)
unload-none base cpu none = after_unload-cases base cpu ∙ ap (unloaded base cpu) none

pub unload-ok : (base : Base) (cpu : ℕ) (lane : Lane) → map.get base.lanes cpu ≡ Some lane → after_unload base cpu ≡ Ok (record base { lanes = map.remove base.lanes cpu }, map.len lane.events)
unload-ok base cpu lane held = after_unload-cases base cpu ∙ ap (unloaded base cpu) held

pub unload-reachable : (base : Base) (cpu : ℕ) (new : Base) (count : ℕ) → IsReachable base → after_unload base cpu ≡ Ok (new, count) → IsReachable new
unload-reachable base cpu new count is answer =
    elim (map.get base.lanes cpu) as (λ o. unloaded base cpu o ≡ Ok (new, count) → IsReachable new) [
      | None ↦ λ e. cc
      | Some lane ↦ λ e. subst IsReachable (same-base _ new (map.len lane.events) count e) (unload-IsReachable base cpu is)
    ] (sym (after_unload-cases base cpu) ∙ answer)

-- ---- inserting, by the test of what is used up

abbrev next_place : Base → Traced → Place
next_place base event = record { cpu = event.cpu; line = (lane_or_new base.lanes event.cpu).next }

abbrev inserted : Base → Traced → Bool → Result (Base × Place) Refused
inserted base event full = cond full (Err Full) (Ok (record base { lanes = lanes_with base.lanes event }, next_place base event))

abbrev is_full : Base → Traced → Bool
is_full base event = leb event_limit (held_in base.lanes) || ltb number_limit (lane_or_new base.lanes event.cpu).next

after_insert-cases : (base : Base) (event : Traced) → after_insert base event ≡ inserted base event (is_full base event)
unfolding after_insert
after_insert-cases base event = refl

pub insert-full : (base : Base) (event : Traced) → event_limit ≤ held_in base.lanes → after_insert base event ≡ Err Full
insert-full base event many = after_insert-cases base event ∙ ap (inserted base event) (or_left _ _ (le-leb event_limit (held_in base.lanes) many))

pub insert-high : (base : Base) (event : Traced) → number_limit < (lane_or_new base.lanes event.cpu).next → after_insert base event ≡ Err Full
insert-high base event high = after_insert-cases base event ∙ ap (inserted base event) (or_right _ _ (lt-ltb number_limit (lane_or_new base.lanes event.cpu).next high))

not-full : (base : Base) (event : Traced) → held_in base.lanes < event_limit → (lane_or_new base.lanes event.cpu).next ≤ number_limit → is_full base event ≡ false
not-full base event few low = λ i. lt-leb event_limit (held_in base.lanes) few i || le-ltb number_limit (lane_or_new base.lanes event.cpu).next low i

pub insert-ok : (base : Base) (event : Traced) → held_in base.lanes < event_limit → (lane_or_new base.lanes event.cpu).next ≤ number_limit
    → after_insert base event ≡ Ok (record base { lanes = lanes_with base.lanes event }, record { cpu = event.cpu; line = (lane_or_new base.lanes event.cpu).next })
insert-ok base event few low = after_insert-cases base event ∙ ap (inserted base event) (not-full base event few low)

pub insert-reachable : (base : Base) (event : Traced) (new : Base) (place : Place) → IsReachable base → HasCpu event → after_insert base event ≡ Ok (new, place) → IsReachable new
insert-reachable base event new place is at answer =
    elim (is_full base event) as (λ b. is_full base event ≡ b → inserted base event b ≡ Ok (new, place) → IsReachable new) [
      | true ↦ λ _ e. cc
      | false ↦ λ free e.
          let parts = or_parts _ _ free in
          subst IsReachable (same-base _ new (next_place base event) place e) (insert-IsReachable base event is at (leb-false event_limit (held_in base.lanes) parts.0) (ltb-false number_limit (lane_or_new base.lanes event.cpu).next parts.1))
    ] refl (sym (after_insert-cases base event) ∙ answer)

-- what an insertion gives
pub insert-gives : (base : Base) (event : Traced) (new : Base) (place : Place) → after_insert base event ≡ Ok (new, place)
    → ◌≡◌ {A = Base × Place} (record base { lanes = lanes_with base.lanes event }, next_place base event) (new, place)
insert-gives base event new place answer =
    elim (is_full base event) as (λ b. inserted base event b ≡ Ok (new, place) → ◌≡◌ {A = Base × Place} (record base { lanes = lanes_with base.lanes event }, next_place base event) (new, place)) [
      | true ↦ λ e. cc
      | false ↦ λ e. ap (given (new, place)) e
    ] (sym (after_insert-cases base event) ∙ answer)
  where
    given : Base × Place → Result (Base × Place) Refused → Base × Place
    given other (Ok both) = both
    given other (Err refused) = other

-- ---- striking, by the lane and by its event

abbrev struck_event : Base → ℕ → ℕ → Option Traced → Result (Base × Place) Refused
struck_event base cpu line found = option_map_or (λ event. Ok (record base { lanes = lanes_without base.lanes cpu line }, record { cpu = cpu; line = line })) found (Err NoEvent)

abbrev struck : Base → ℕ → ℕ → Option Lane → Result (Base × Place) Refused
struck base cpu line held = option_map_or (λ lane. struck_event base cpu line (map.get lane.events line)) held (Err (NoLane cpu))

after_strike-cases : (base : Base) (cpu line : ℕ) → after_strike base cpu line ≡ struck base cpu line (map.get base.lanes cpu)
unfolding after_strike
after_strike-cases base cpu line = refl

pub strike-no_lane : (base : Base) (cpu line : ℕ) → map.get base.lanes cpu ≡ None → after_strike base cpu line ≡ Err (NoLane cpu)
strike-no_lane base cpu line none = after_strike-cases base cpu line ∙ ap (struck base cpu line) none

pub strike-no_event : (base : Base) (cpu line : ℕ) (lane : Lane) → map.get base.lanes cpu ≡ Some lane → map.get lane.events line ≡ None → after_strike base cpu line ≡ Err NoEvent
strike-no_event base cpu line lane held none = after_strike-cases base cpu line ∙ ap (struck base cpu line) held ∙ ap (struck_event base cpu line) none

pub strike-ok : (base : Base) (cpu line : ℕ) (lane : Lane) (event : Traced) → map.get base.lanes cpu ≡ Some lane → map.get lane.events line ≡ Some event
    → after_strike base cpu line ≡ Ok (record base { lanes = lanes_without base.lanes cpu line }, record { cpu = cpu; line = line })
strike-ok base cpu line lane event held found = after_strike-cases base cpu line ∙ ap (struck base cpu line) held ∙ ap (struck_event base cpu line) found

pub strike-reachable : (base : Base) (cpu line : ℕ) (new : Base) (place : Place) → IsReachable base → after_strike base cpu line ≡ Ok (new, place) → IsReachable new
strike-reachable base cpu line new place is answer =
    elim (map.get base.lanes cpu) as (λ o. struck base cpu line o ≡ Ok (new, place) → IsReachable new) [
      | None ↦ λ e. cc
      | Some lane ↦ λ held. elim (map.get lane.events line) as (λ o. struck_event base cpu line o ≡ Ok (new, place) → IsReachable new) [
        | None ↦ λ e. cc
        | Some event ↦ λ e. subst IsReachable (same-base _ new (record { cpu = cpu; line = line }) place e) (strike-IsReachable base cpu line is)
      ] held
    ] (sym (after_strike-cases base cpu line) ∙ answer)

-- the place that is struck is the one that was asked for
pub strike-place : (base : Base) (cpu line : ℕ) (new : Base) (place : Place) → after_strike base cpu line ≡ Ok (new, place) → ◌≡◌ {A = Place} (record { cpu = cpu; line = line }) place
strike-place base cpu line new place answer =
    elim (map.get base.lanes cpu) as (λ o. struck base cpu line o ≡ Ok (new, place) → ◌≡◌ {A = Place} (record { cpu = cpu; line = line }) place) [
      | None ↦ λ e. cc
      | Some lane ↦ λ held. elim (map.get lane.events line) as (λ o. struck_event base cpu line o ≡ Ok (new, place) → ◌≡◌ {A = Place} (record { cpu = cpu; line = line }) place) [
        | None ↦ λ e. cc
        | Some event ↦ λ e. ap (place_in place) e
      ] held
    ] (sym (after_strike-cases base cpu line) ∙ answer)
  where
    place_in : Place → Result (Base × Place) Refused → Place
    place_in other (Ok both) = both.1
    place_in other (Err refused) = other

-- ---- another filter, by the trigger

abbrev refiltered : Base → ℕ → Option Tree → Option Hist → Result (Base × ℕ) Refused
refiltered base id filter found = option_map_or (λ (hist : Hist). Ok (record base { triggers = map.insert base.triggers id (with_filter hist filter) }, id)) found (Err NoTrigger)

after_refilter-cases : (base : Base) (id : ℕ) (filter : Option Tree) → after_refilter base id filter ≡ refiltered base id filter (map.get base.triggers id)
unfolding after_refilter
after_refilter-cases base id filter = refl

pub refilter-none : (base : Base) (id : ℕ) (filter : Option Tree) → map.get base.triggers id ≡ None → after_refilter base id filter ≡ Err NoTrigger
refilter-none base id filter none = after_refilter-cases base id filter ∙ ap (refiltered base id filter) none

pub refilter-ok : (base : Base) (id : ℕ) (filter : Option Tree) (hist : Hist) → map.get base.triggers id ≡ Some hist
    → after_refilter base id filter ≡ Ok (record base { triggers = map.insert base.triggers id (with_filter hist filter) }, id)
refilter-ok base id filter hist attached = after_refilter-cases base id filter ∙ ap (refiltered base id filter) attached

pub refilter-reachable : (base : Base) (id : ℕ) (filter : Option Tree) (new : Base) (same : ℕ) → IsReachable base → after_refilter base id filter ≡ Ok (new, same) → IsReachable new
refilter-reachable base id filter new same is answer =
    elim (map.get base.triggers id) as (λ o. map.get base.triggers id ≡ o → refiltered base id filter o ≡ Ok (new, same) → IsReachable new) [
      | None ↦ λ _ e. cc
      | Some hist ↦ λ attached e. subst IsReachable (same-base _ new id same e) (refilter-IsReachable base id hist filter is attached)
    ] refl (sym (after_refilter-cases base id filter) ∙ answer)

-- ---- removing, by the trigger and by its reader

abbrev removed_unless : Base → ℕ → Option ℕ → Result (Base × ℕ) Refused
removed_unless base id reader = option_map_or (λ reader. Err (InUse reader)) reader (Ok (record base { triggers = map.remove base.triggers id }, id))

abbrev removed : Base → ℕ → Option Hist → Result (Base × ℕ) Refused
removed base id found = option_map_or (λ hist. removed_unless base id (reader_on base.triggers hist.variable)) found (Err NoTrigger)

after_remove-cases : (base : Base) (id : ℕ) → after_remove base id ≡ removed base id (map.get base.triggers id)
unfolding after_remove
after_remove-cases base id = refl

pub remove-none : (base : Base) (id : ℕ) → map.get base.triggers id ≡ None → after_remove base id ≡ Err NoTrigger
remove-none base id none = after_remove-cases base id ∙ ap (removed base id) none

pub remove-in_use : (base : Base) (id : ℕ) (hist : Hist) (reader : ℕ) → map.get base.triggers id ≡ Some hist → reader_on base.triggers hist.variable ≡ Some reader → after_remove base id ≡ Err (InUse reader)
remove-in_use base id hist reader attached reads = after_remove-cases base id ∙ ap (removed base id) attached ∙ ap (removed_unless base id) reads

pub remove-ok : (base : Base) (id : ℕ) (hist : Hist) → map.get base.triggers id ≡ Some hist → reader_on base.triggers hist.variable ≡ None → after_remove base id ≡ Ok (record base { triggers = map.remove base.triggers id }, id)
remove-ok base id hist attached unread = after_remove-cases base id ∙ ap (removed base id) attached ∙ ap (removed_unless base id) unread

pub remove-reachable : (base : Base) (id : ℕ) (new : Base) (same : ℕ) → IsReachable base → after_remove base id ≡ Ok (new, same) → IsReachable new
remove-reachable base id new same is answer =
    elim (map.get base.triggers id) as (λ o. map.get base.triggers id ≡ o → removed base id o ≡ Ok (new, same) → IsReachable new) [
      | None ↦ λ _ e. cc
      | Some hist ↦ λ attached. elim (reader_on base.triggers hist.variable) as (λ o. reader_on base.triggers hist.variable ≡ o → removed_unless base id o ≡ Ok (new, same) → IsReachable new) [
        | Some reader ↦ λ _ e. cc
        | None ↦ λ unread e. subst IsReachable (same-base _ new id same e) (remove-IsReachable base id hist is attached unread)
      ] refl
    ] refl (sym (after_remove-cases base id) ∙ answer)
