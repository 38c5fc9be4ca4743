-- What an edit of slots is for the lanes that they stand for.
use Rattle.std.proofs.Common.{◌≡◌, ℕ, zero, suc, ◌+◌, ◌<◌, false, List, [], ◌∷◌, ◌++◌, length, refl, sym, ap, ◌∙◌, Option, Some, None, unwrap_or, option_map, is_some, Result, Ok, Err, is_err, OnOk, arith}
use Rattle.std.specs.Prelude.{option_and_then}
use Rattle.std.specs.Option.{option_map_or}
use Rattle.std.specs.Ordering.{nat_cmp}
use Rattle.std.specs.Cmp.{nat_cmp_total}
use Rattle.std.specs.FinMap as map
use Rattle.std.specs.FinMap.{nat_cmp-IsAntisymmetric}
use Rattle.ft_fields.specs.Traced.{Traced}
use Rattle.ft_maps.specs.Mapped.{entries_by, entries-map_by, map_by-empty, get-map_by, map_by-insert}
use Rattle.ft_lanes.specs.Held.{Lane, Lanes, event_at, held_on}
use Rattle.ft_lanes.specs.Edits.{new_lane, lane_with, lane_without, lanes_without}
use Rattle.ft_store.specs.Stored.{stored_at}
use Rattle.ft_lanes.specs.inner.Slots.{SlotsOf, AllSlots, no_slots, slots_with, all_with, slots_without, all_without, lane_by, lanes_by, AreWithin, slots_in}
use Rattle.ft_lanes.proofs.Counts.{within-none, len-map_by}
use Rattle.ft_lanes.proofs.Mapped.{map_by-remove, map_by-agree}

module _ (f : ℕ → Traced) where
  lane-empty : lane_by f no_slots ≡ new_lane
  lane-empty = λ i. record { events = map_by-empty f nat_cmp i; next = 1 }

  -- no slots stand for no lanes
  pub lanes-empty : lanes_by f map.empty ≡ map.empty
  lanes-empty = map_by-empty (lane_by f) nat_cmp

  -- a lane is looked up by its slots
  pub lane-found : (all : AllSlots) (cpu : ℕ) → map.get (lanes_by f all) cpu ≡ option_map (lane_by f) (map.get all cpu)
  lane-found all cpu = get-map_by (lane_by f) nat_cmp_total all cpu

  or_new : (o : Option SlotsOf) → lane_by f (unwrap_or o no_slots) ≡ unwrap_or (option_map (lane_by f) o) new_lane
  or_new None = lane-empty
  or_new (Some slots) = refl

  -- the lane that an event goes to
  pub lane-or_new : (all : AllSlots) (cpu : ℕ) → lane_by f (unwrap_or (map.get all cpu) no_slots) ≡ unwrap_or (map.get (lanes_by f all) cpu) new_lane
  lane-or_new all cpu = or_new (map.get all cpu) ∙ ap (λ o. unwrap_or o new_lane) (sym (lane-found all cpu))

  lane-with : (slots : SlotsOf) (place : ℕ) → lane_by f (slots_with slots place) ≡ lane_with (lane_by f slots) (f place)
  lane-with slots place = λ i. record { events = map_by-insert f nat_cmp_total nat_cmp-IsAntisymmetric slots.places slots.next place i; next = slots.next + 1 }

  -- a place pushed is an event pushed
  pub lanes-with : (all : AllSlots) (cpu place : ℕ) → lanes_by f (all_with all cpu place) ≡ map.insert (lanes_by f all) cpu (lane_with (unwrap_or (map.get (lanes_by f all) cpu) new_lane) (f place))
  lanes-with all cpu place =
      map_by-insert (lane_by f) nat_cmp_total nat_cmp-IsAntisymmetric all cpu _
      ∙ ap (map.insert (lanes_by f all) cpu) (lane-with (unwrap_or (map.get all cpu) no_slots) place ∙ ap (λ l. lane_with l (f place)) (lane-or_new all cpu))

  lane-without : (slots : SlotsOf) (line : ℕ) → lane_by f (slots_without slots line) ≡ lane_without (lane_by f slots) line
  lane-without slots line = λ i. record { events = map_by-remove nat_cmp_total nat_cmp-IsAntisymmetric f slots.places line i; next = slots.next }

  -- a slot taken out is an event taken out
  pub lanes-without : (all : AllSlots) (cpu line : ℕ) → lanes_by f (all_without all cpu line) ≡ lanes_without (lanes_by f all) cpu line
  lanes-without all cpu line = at (map.get all cpu) ∙ ap taken (sym (lane-found all cpu))
    where
      taken : Option Lane → Lanes
      taken o = option_map_or (λ lane. map.insert (lanes_by f all) cpu (lane_without lane line)) o (lanes_by f all)

      at : (o : Option SlotsOf) → lanes_by f (option_map_or (λ slots. map.insert all cpu (slots_without slots line)) o all) ≡ taken (option_map (lane_by f) o)
      at None = refl
      at (Some slots) =
          map_by-insert (lane_by f) nat_cmp_total nat_cmp-IsAntisymmetric all cpu (slots_without slots line)
          ∙ ap (map.insert (lanes_by f all) cpu) (lane-without slots line)

  -- a lane taken out
  pub lanes-unloaded : (all : AllSlots) (cpu : ℕ) → lanes_by f (map.remove all cpu) ≡ map.remove (lanes_by f all) cpu
  lanes-unloaded all cpu = map_by-remove nat_cmp_total nat_cmp-IsAntisymmetric (lane_by f) all cpu

  -- the event of a line is the one at its place
  pub event_at-place : (all : AllSlots) (cpu line : ℕ) → event_at (lanes_by f all) cpu line ≡ option_map f (option_and_then (λ slots. map.get slots.places line) (map.get all cpu))
  event_at-place all cpu line = ap (option_and_then (λ lane. map.get lane.events line)) (lane-found all cpu) ∙ at (map.get all cpu)
    where
      at : (o : Option SlotsOf) → option_and_then (λ lane. map.get lane.events line) (option_map (lane_by f) o) ≡ option_map f (option_and_then (λ slots. map.get slots.places line) o)
      at None = refl
      at (Some slots) = get-map_by f nat_cmp_total slots.places line

-- what stands after the slots doesn't matter
pub lanes-agree : (f g : ℕ → Traced) (n : ℕ) → ((place : ℕ) → place < n → f place ≡ g place) → (all : AllSlots) → AreWithin n all → lanes_by f all ≡ lanes_by g all
lanes-agree f g n agree all within =
    map_by-agree nat_cmp_total nat_cmp-IsAntisymmetric (lane_by f) (lane_by g) all (λ cpu slots is.
    λ i. record {
      events = map_by-agree nat_cmp_total nat_cmp-IsAntisymmetric f g slots.places (λ line place there. agree place (within cpu slots is line place there)) i;
      next = slots.next;
    })

front : (xs ys : List Traced) (i : ℕ) → i < length xs → stored_at (xs ++ ys) i ≡ stored_at xs i
front [] ys i lt = absurd (omega arith)
front (x ∷ xs) ys zero lt = refl
front (x ∷ xs) ys (suc i) lt = front xs ys i (omega arith)

-- a store with more after it holds the same lanes
pub lanes-appended : (store more : List Traced) (all : AllSlots) → AreWithin (length store) all → lanes_by (stored_at (store ++ more)) all ≡ lanes_by (stored_at store) all
lanes-appended store more all within = lanes-agree _ _ (length store) (λ place lt. front store more place lt) all within

-- if no event is held, the store doesn't matter
pub lanes-none : (f g : ℕ → Traced) (all : AllSlots) → slots_in all ≡ 0 → lanes_by f all ≡ lanes_by g all
lanes-none f g all none = lanes-agree f g 0 (λ place lt. absurd (omega arith)) all (within-none all none)

-- the last event of a store
pub stored-last : (store : List Traced) (event : Traced) → stored_at (store ++ event ∷ []) (length store) ≡ event
stored-last [] event = refl
stored-last (x ∷ store) event = stored-last store event

-- how many events a lane has
pub count-at : (f : ℕ → Traced) (all : AllSlots) (cpu : ℕ) → option_map (λ slots. map.len slots.places) (map.get all cpu) ≡ option_map (λ lane. map.len lane.events) (map.get (lanes_by f all) cpu)
count-at f all cpu = at (map.get all cpu) ∙ ap (option_map (λ lane. map.len lane.events)) (sym (lane-found f all cpu))
  where
    at : (o : Option SlotsOf) → option_map (λ slots. map.len slots.places) o ≡ option_map (λ lane. map.len lane.events) (option_map (lane_by f) o)
    at None = refl
    at (Some slots) = ap Some (sym (len-map_by f slots.places))

-- and none if there is no lane
pub count-on : (f : ℕ → Traced) (all : AllSlots) (cpu : ℕ) → option_map_or (λ slots. map.len slots.places) (map.get all cpu) 0 ≡ held_on (lanes_by f all) cpu
count-on f all cpu = at (map.get all cpu) ∙ ap (λ o. option_map_or (λ (lane : Lane). map.len lane.events) o 0) (sym (lane-found f all cpu))
  where
    at : (o : Option SlotsOf) → option_map_or (λ slots. map.len slots.places) o 0 ≡ option_map_or (λ lane. map.len lane.events) (option_map (lane_by f) o) 0
    at None = refl
    at (Some slots) = sym (len-map_by f slots.places)

-- a clause on success, if a call did not fail
pub at_ok : {T E P : Type 0} (r : Result T E) → false ≡ is_err r → OnOk r P → P
at_ok (Ok x) e h = h
at_ok (Err y) e h = cc

-- the lines of a lane are those of its slots
pub lane-entries : (f : ℕ → Traced) (all : AllSlots) (cpu : ℕ) → option_map (λ lane. map.entries lane.events) (map.get (lanes_by f all) cpu) ≡ option_map (λ slots. entries_by f (map.entries slots.places)) (map.get all cpu)
lane-entries f all cpu = ap (option_map (λ lane. map.entries lane.events)) (lane-found f all cpu) ∙ at (map.get all cpu)
  where
    at : (o : Option SlotsOf) → option_map (λ lane. map.entries lane.events) (option_map (lane_by f) o) ≡ option_map (λ slots. entries_by f (map.entries slots.places)) o
    at None = refl
    at (Some slots) = ap Some (entries-map_by f nat_cmp_total slots.places)

-- a lane is held exactly if its slots are
pub held-slots_of : (f : ℕ → Traced) (all : AllSlots) (cpu : ℕ) → map.contains_key (lanes_by f all) cpu ≡ map.contains_key all cpu
held-slots_of f all cpu = ap is_some (lane-found f all cpu) ∙ at (map.get all cpu)
  where
    at : (o : Option SlotsOf) → is_some (option_map (lane_by f) o) ≡ is_some o
    at None = refl
    at (Some slots) = refl
