-- What unloading, striking and listing answer, by look-ups in the lanes.
use Rattle.std.proofs.Common.{◌≡◌, ℕ, ◌<◌, ◌≤◌, refl, sym, ap, ◌∙◌, List, Option, Some, None, Result, Ok, Err, unwrap_or, arith}
use Rattle.std.specs.Prelude.{IsSome, option_map, option_and_then}
use Rattle.std.specs.Option.{option_map_or}
use Rattle.std.specs.FinMap as map
use Rattle.ft_fields.specs.Traced.{last_cpu}
use Rattle.ft_lanes.specs.Held.{Lane, Lanes, event_at, held_on}
use Rattle.ft_lanes.specs.Edits.{lanes_without}
use Rattle.ft_lanes.specs.Listing.{lane_text}
use Rattle.ft_base.specs.declared.refused.Refused.{Refused}
use Rattle.ft_base.specs.declared.refused.Refused.TheVariants.{NoEvent, NoLane}
use Rattle.ft_base.specs.Answers.{list_text}
use Rattle.ft_base.specs.Base.{Base}
use Rattle.ft_base.specs.After.{after_unload, after_strike}
use Rattle.ft_base.proofs.Cases.{unload-ok, strike-no_event, strike-ok}

-- a CPU above all that may be held has no lane
pub no_lane-beyond : (lanes : Lanes) (cpu : ℕ) → ((held : ℕ) (lane : Lane) → map.get lanes held ≡ Some lane → held ≤ last_cpu) → last_cpu < cpu → map.get lanes cpu ≡ None
no_lane-beyond lanes cpu low high =
    elim (map.get lanes cpu) as (λ o. map.get lanes cpu ≡ o → o ≡ None) [
      | None ↦ λ _. refl
      | Some lane ↦ λ held. absurd (omega (arith, low cpu lane held))
    ] refl

-- unloading a lane that is held
pub unload-held : (base : Base) (cpu : ℕ) → IsSome (map.get base.lanes cpu) → after_unload base cpu ≡ Ok (record base { lanes = map.remove base.lanes cpu }, held_on base.lanes cpu)
unload-held base cpu held =
    elim (map.get base.lanes cpu) as (λ o. map.get base.lanes cpu ≡ o → IsSome o → after_unload base cpu ≡ Ok (record base { lanes = map.remove base.lanes cpu }, option_map_or (λ lane. map.len lane.events) o 0)) [
      | None ↦ λ _ h. cc
      | Some lane ↦ λ is h. unload-ok base cpu lane is
    ] refl held

-- striking in a lane that is held, by what its line has
pub strike-missing : (base : Base) (cpu line : ℕ) → IsSome (map.get base.lanes cpu) → event_at base.lanes cpu line ≡ None → after_strike base cpu line ≡ Err NoEvent
strike-missing base cpu line held missing =
    elim (map.get base.lanes cpu) as (λ o. map.get base.lanes cpu ≡ o → IsSome o → option_and_then (λ lane. map.get lane.events line) o ≡ None → after_strike base cpu line ≡ Err NoEvent) [
      | None ↦ λ _ h _. cc
      | Some lane ↦ λ is h none. strike-no_event base cpu line lane is none
    ] refl held missing

found-event : (base : Base) (cpu line : ℕ) (lane : Lane) → map.get base.lanes cpu ≡ Some lane → IsSome (map.get lane.events line) → after_strike base cpu line ≡ Ok (record base { lanes = lanes_without base.lanes cpu line }, record { cpu = cpu; line = line })
found-event base cpu line lane is found =
    elim (map.get lane.events line) as (λ o. map.get lane.events line ≡ o → IsSome o → after_strike base cpu line ≡ Ok (record base { lanes = lanes_without base.lanes cpu line }, record { cpu = cpu; line = line })) [
      | None ↦ λ _ h. cc
      | Some event ↦ λ here _. strike-ok base cpu line lane event is here
    ] refl found

pub strike-found : (base : Base) (cpu line : ℕ) → IsSome (event_at base.lanes cpu line) → after_strike base cpu line ≡ Ok (record base { lanes = lanes_without base.lanes cpu line }, record { cpu = cpu; line = line })
strike-found base cpu line found =
    elim (map.get base.lanes cpu) as (λ o. map.get base.lanes cpu ≡ o → IsSome (option_and_then (λ lane. map.get lane.events line) o) → after_strike base cpu line ≡ Ok (record base { lanes = lanes_without base.lanes cpu line }, record { cpu = cpu; line = line })) [
      | None ↦ λ _ h. cc
      | Some lane ↦ λ is h. found-event base cpu line lane is h
    ] refl found

-- the list of a lane, by the lane that is held
abbrev listed : ℕ → Option Lane → Result (List ℕ) Refused
listed cpu held = option_map_or (λ lane. Ok (lane_text cpu lane)) held (Err (NoLane cpu))

list_text-cases : (base : Base) (cpu : ℕ) → list_text base cpu ≡ listed cpu (map.get base.lanes cpu)
unfolding list_text
list_text-cases base cpu = refl

pub list-none : (base : Base) (cpu : ℕ) → map.get base.lanes cpu ≡ None → list_text base cpu ≡ Err (NoLane cpu)
list-none base cpu none = list_text-cases base cpu ∙ ap (listed cpu) none

pub list-some : (base : Base) (cpu : ℕ) (text : List ℕ) → Some text ≡ option_map (lane_text cpu) (map.get base.lanes cpu) → list_text base cpu ≡ Ok text
list-some base cpu text is =
    list_text-cases base cpu
    ∙ elim (map.get base.lanes cpu) as (λ o. Some text ≡ option_map (lane_text cpu) o → listed cpu o ≡ Ok text) [
      | None ↦ λ e. cc
      | Some lane ↦ λ e. ap (λ o. Ok (unwrap_or o text)) (sym e)
    ] is
