-- Lanes as places in a store of events, and the lanes of events that they stand for.
use Rattle.std.specs.Prelude.{◌≡◌, ℕ, ◌+◌, ◌<◌, ◌≤◌, Bool, true, false, ◌==◌, if◌then◌else◌, List, [], ◌∷◌, length, get_or, Option, None, option_map, Some, unwrap_or}
use Rattle.std.specs.List.{sum_by, find, list_any}
use Rattle.std.specs.Map.{keys_of}
use Rattle.std.specs.Option.{option_map_or}
use Rattle.std.specs.Ordering.{nat_cmp}
use Rattle.std.specs.FinMap as map
use Rattle.std.specs.FinMap.{FinMap}
use Rattle.ft_fields.specs.Traced.{Traced}
use Rattle.ft_maps.specs.Mapped.{map_by}
use Rattle.ft_lanes.specs.Held.{Lane, Lanes, number_limit}

-- where one CPU's events stand in a store, by line number, and the next number
pub record SlotsOf : Type 0 where
  pub places : FinMap nat_cmp ℕ
  pub next : ℕ

-- how many CPUs a number of 16 bits can tell apart (our own choice)
abbrev pub cpu_limit : ℕ
cpu_limit = 65536

-- slots by CPU
abbrev pub AllSlots : Type 0
AllSlots = FinMap nat_cmp SlotsOf

-- a lane without slots: its first line is 1
abbrev pub no_slots : SlotsOf
no_slots = record { places = map.empty; next = 1 }

-- slots with these lines and places, and this next number
abbrev pub slots_of : List (ℕ × ℕ) → ℕ → SlotsOf
slots_of lines next = record { places = map.from_entries lines; next = next }

-- these lines, at rising places
abbrev pub placed_from : ℕ → List ℕ → List (ℕ × ℕ)
placed_from place [] = []
placed_from place (line ∷ lines) = (line, place) ∷ placed_from (place + 1) lines

-- the slots of a lane whose events stand one after another from a place on
abbrev pub slots_from : ℕ → Lane → SlotsOf
slots_from place lane = slots_of (placed_from place (keys_of (map.entries lane.events))) lane.next

-- one more slot, at the next number
abbrev pub slots_with : SlotsOf → ℕ → SlotsOf
slots_with slots place = record { places = map.insert slots.places slots.next place; next = slots.next + 1 }

-- one more slot in the lane of a CPU
abbrev pub all_with : AllSlots → ℕ → ℕ → AllSlots
all_with all cpu place = map.insert all cpu (slots_with (unwrap_or (map.get all cpu) no_slots) place)

-- the slot of a line taken out; the next number stays
abbrev pub slots_without : SlotsOf → ℕ → SlotsOf
slots_without slots line = record { places = map.remove slots.places line; next = slots.next }

-- the slot of a CPU's line taken out
abbrev pub all_without : AllSlots → ℕ → ℕ → AllSlots
all_without all cpu line = option_map_or (λ slots. map.insert all cpu (slots_without slots line)) (map.get all cpu) all

-- one more slot for each event, at rising places
abbrev pub all_from : AllSlots → ℕ → List Traced → AllSlots
all_from all place [] = all
all_from all place (e ∷ es) = all_from (all_with all e.cpu place) (place + 1) es

-- the slots of a CPU put in, if there are any
abbrev pub all_put : AllSlots → ℕ → SlotsOf → AllSlots
all_put all cpu slots = if slots.next == 1 then all else map.insert all cpu slots

-- slots by CPU, from a CPU on, put in
abbrev pub all_merged : AllSlots → ℕ → List SlotsOf → AllSlots
all_merged all cpu [] = all
all_merged all cpu (slots ∷ by_cpu) = all_merged (all_put all cpu slots) (cpu + 1) by_cpu

-- the slots of a CPU in a list by CPU, none past its end
abbrev pub slots_at : List SlotsOf → ℕ → SlotsOf
slots_at by_cpu cpu = get_or by_cpu cpu no_slots

-- the CPU of the first event that has one of these CPUs
abbrev pub first_cpu : (ℕ → Bool) → List Traced → Option ℕ
first_cpu has events = option_map (λ e. e.cpu) (find (λ e. has e.cpu) events)

-- an event of the list has the CPU
abbrev pub has_cpu : List Traced → ℕ → Bool
has_cpu events cpu = list_any (λ e. e.cpu == cpu) events

-- no event's CPU has slots
abbrev pub IsFreeOf : AllSlots → List Traced → Type 0
IsFreeOf all events = (cpu : ℕ) → has_cpu events cpu ≡ true → map.get all cpu ≡ None

-- two sets of slots are the same except for the CPUs of the events
abbrev pub AgreeBeside : List Traced → AllSlots → AllSlots → Type 0
AgreeBeside events old new = (cpu : ℕ) → has_cpu events cpu ≡ false → map.get new cpu ≡ map.get old cpu

-- each CPU for which slots that are put in change nothing has what it had
abbrev pub AgreeUnmoved : List SlotsOf → AllSlots → AllSlots → Type 0
AgreeUnmoved by_cpu old new = (cpu : ℕ) → map.get (all_merged old 0 by_cpu) cpu ≡ map.get old cpu → map.get new cpu ≡ map.get old cpu

-- the lanes of the events' CPUs have numbers left for all of them
abbrev pub HasRoom : AllSlots → List Traced → Type 0
HasRoom all events = (cpu : ℕ) → has_cpu events cpu ≡ true → (unwrap_or (map.get all cpu) no_slots).next + length events ≤ number_limit + 1

-- the lane that slots stand for
abbrev pub lane_by : (ℕ → Traced) → SlotsOf → Lane
lane_by at slots = record { events = map_by at slots.places; next = slots.next }

-- the lanes that slots stand for
abbrev pub lanes_by : (ℕ → Traced) → AllSlots → Lanes
lanes_by at all = map_by (lane_by at) all

-- each value of a map has a property
abbrev pub Each : {X : Type 0} → (X → Type 0) → FinMap nat_cmp X → Type 0
Each {X = X} P m = (k : ℕ) (v : X) → map.get m k ≡ Some v → P v

-- slots are places of a store of this length
abbrev pub SlotsAreWithin : ℕ → SlotsOf → Type 0
SlotsAreWithin n slots = Each (λ place. place < n) slots.places

-- all slots are places of a store of this length
abbrev pub AreWithin : ℕ → AllSlots → Type 0
AreWithin n all = Each (SlotsAreWithin n) all

-- how many slots there are together
abbrev pub slots_in : AllSlots → ℕ
slots_in all = sum_by (λ slots. map.len slots.places) (map.values all)

-- what holds of slots, of their number as it was counted, and of the length of their store
pub record AreStored (n held : ℕ) (all : AllSlots) : Type 0 where
  pub within : AreWithin n all
  pub counted : held ≡ slots_in all
  pub few : held ≤ n
