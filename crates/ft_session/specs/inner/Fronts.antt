-- The first of some places, whose events are struck in another order.
use Rattle.std.specs.Prelude.{◌≡◌, ◌≤◌, ◌+◌, ⊤, ℕ, Bool, true, if◌then◌else◌, List, length, drop, Option, Some, None, IsSomeAnd, option_and_then}
use Rattle.std.specs.List.{AllByRecursion, IsDistinct, list_any}
use Rattle.std.specs.Ordering.{eq_by_cmp}
use Rattle.std.specs.FinMap as map
use Rattle.std.specs.FinMap.{FinMap}
use Rattle.ft_fields.specs.Places.{pos_cmp}
use Rattle.ft_fields.specs.declared.pos.Pos.{Pos}
use Rattle.ft_base.specs.Base.{Base}
use Rattle.ft_answers.specs.Held.{Lane, event_at}
use Rattle.ft_layout.specs.declared.places.PlaceLayout.{PlaceLayout}
use Rattle.ft_session.specs.Strikes.{StrikesEnd, after_strikes}

-- a place in merged order is among some
abbrev pub has_place : List Pos → Pos → Bool
has_place front pos = list_any (eq_by_cmp pos_cmp pos) front

-- an event is held there
abbrev pub IsHeldIn : Base → Pos → Type 0
IsHeldIn base pos = IsSomeAnd (event_at base.lanes pos.cpu pos.line) (λ event. event.stamp ≡ pos.stamp)

-- it is that of the event that is held at a place as C has it
abbrev pub IsPosOf : Base → PlaceLayout → Pos → Type 0
IsPosOf base place pos = (pos.cpu ≡ place.cpu) × (pos.line ≡ place.line) × IsHeldIn base pos

-- a lane of a CPU without the events at some places
abbrev pub IsLaneWithout : (Pos → Bool) → ℕ → Option Lane → Option Lane → Type 0
IsLaneWithout gone cpu None None = ⊤
IsLaneWithout gone cpu (Some old) (Some new) =
    (new.next ≡ old.next) × ((line : ℕ) → map.get new.events line ≡ option_and_then (λ event. if gone (record { stamp = event.stamp; cpu = cpu; line = line }) then None else Some event) (map.get old.events line))
IsLaneWithout gone cpu old new = ⊥

-- a base without the events at some places
pub record IsWithout (gone : Pos → Bool) (old new : Base) : Type 0 where
  pub triggers : new.triggers ≡ old.triggers
  pub next_id : new.next_id ≡ old.next_id
  pub lanes : (cpu : ℕ) → IsLaneWithout gone cpu (map.get old.lanes cpu) (map.get new.lanes cpu)

-- what strikes come to after others
abbrev pub after_others : ℕ → StrikesEnd → StrikesEnd
after_others count struck = record struck { count = count + struck.count }

-- striking the events at the first ones of some places, each held, leaves a base without them, from which the rest is struck
pub record BeginsWith (base : Base) (places : List PlaceLayout) (count : ℕ) (gone : Pos → Bool) : Type 0 where
  pub few : count ≤ length places
  pub rest : Base
  pub without : IsWithout gone base rest
  pub gives : after_strikes base places ≡ after_others count (after_strikes rest (drop count places))

-- a set has the places of the events at the first ones of some places
pub record ComeFirst (base : Base) (places : List PlaceLayout) (held : FinMap pos_cmp (Unit {0})) : Type 0 where
  pub each : (pos : Pos) → map.contains_key held pos ≡ true → IsHeldIn base pos
  pub begins : BeginsWith base places (map.len held) (map.contains_key held)

-- a list has these places, each once
pub record IsFront (base : Base) (places : List PlaceLayout) (front : List Pos) : Type 0 where
  pub held : AllByRecursion (IsHeldIn base) front
  pub apart : IsDistinct (eq_by_cmp pos_cmp) front
  pub begins : BeginsWith base places (length front) (has_place front)
