-- Sums over the values of a map, and how many slots there are, as the map is edited.
use Rattle.std.proofs.Common.{◌≡◌, ℕ, ◌+◌, ◌-◌, Bool, true, false, cond, List, [], ◌∷◌, map as list_map, length, refl, sym, ap, subst, ◌∙◌, Option, Some, None, is_some, option_map, unwrap_or, ⊎_elim, arith}
use Rattle.std.specs.Prelude.{option_and_then}
use Rattle.std.specs.declared.cmp.Ordering.{Ordering}
use Rattle.std.specs.declared.cmp.Ordering.TheVariants.{Less, Equal, Greater}
use Rattle.std.specs.List.{sum_by}
use Rattle.std.specs.Option.{option_map_or, option_len}
use Rattle.std.specs.Ordering.{nat_cmp, is_eq}
use Rattle.std.specs.Cmp.{IsTotalOrder, nat_cmp_total}
use Rattle.std.specs.Map.{values_of}
use Rattle.std.specs.FinMap as map
use Rattle.std.specs.FinMap.{FinMap, find, put, is_sorted, entries_sorted, entries-insert, get-entries, len-insert, len-remove, len-entries, len-empty, same_map, get-insert, get-remove, get-empty, empty_of_len, nat_cmp-IsAntisymmetric}
use Rattle.std.specs.FinMap.Entries.{below_all, by_order}
use Rattle.std.proofs.lemmas.Bool.{cases_eq}
use Rattle.std.proofs.lemmas.Option.{none-some}
use Rattle.std.proofs.lemmas.List.{length-map}
use Rattle.std.proofs.lemmas.List.Sums.{sum_by-cons}
use Rattle.ft_fields.specs.Traced.{Traced}
use Rattle.ft_maps.specs.Entries.{and_left, and_right, is_less, entries-empty, get-remove_same, get-remove_other, insert_same}
use Rattle.ft_maps.specs.Mapped.{map_by, entries_by, entries-map_by}
use Rattle.ft_lanes.specs.Held.{held_in}
use Rattle.ft_lanes.specs.inner.Slots.{SlotsOf, AllSlots, slots_in, slots_without, all_with, all_without, no_slots, lane_by, lanes_by, AreWithin, AreStored}
use Rattle.ft_lanes.proofs.Each.{within-longer, within-with, within-without, within-unloaded}
use lib.Dec.{T}

module _ {K X : Type 0} {R : K → K → Ordering} (total : IsTotalOrder R) where
  -- a key below one that is below all others is not there
  find-below : (k x : K) (es : List (K × X)) → R k x ≡ Less → T (below_all R x es) → find R k es ≡ None
  find-below k x [] less all = refl
  find-below k x (e ∷ es) less all =
      ap (λ r. cond (is_eq r) (Some e.1) (find R k es)) (total.trans k x e.0 less (is_less _ (and_left _ _ all)))
      ∙ find-below k x es less (and_right _ _ all)

  module _ (h : X → ℕ) where
    abbrev total_of : List (K × X) → ℕ
    total_of es = sum_by h (list_map (λ e. e.1) es)

    total-cons : (e : K × X) (es : List (K × X)) → total_of (e ∷ es) ≡ h e.1 + total_of es
    total-cons e es = sum_by-cons h e.1 (list_map (λ x. x.1) es)

    total-put : (k : K) (v : X) (es : List (K × X)) → T (is_sorted R es) → total_of (put R k v es) + option_map_or h (find R k es) 0 ≡ total_of es + h v
    total-put k v [] sorted = omega arith
    total-put k v (e ∷ es) sorted =
        let rest : total_of (put R k v es) + option_map_or h (find R k es) 0 ≡ total_of es + h v = total-put k v es (and_right (below_all R e.0 es) (is_sorted R es) sorted) in
        elim (R k e.0) as (λ r. R k e.0 ≡ r → total_of (by_order r ((k, v) ∷ e ∷ es) ((e.0, v) ∷ es) (e ∷ put R k v es)) + option_map_or h (cond (is_eq r) (Some e.1) (find R k es)) 0 ≡ total_of (e ∷ es) + h v) [
          | Less ↦ λ less. ap (λ o. total_of ((k, v) ∷ e ∷ es) + option_map_or h o 0) (find-below k e.0 es less (and_left _ _ sorted)) ∙ omega (arith, total-cons (k, v) (e ∷ es))
          | Equal ↦ λ _. omega (arith, total-cons (e.0, v) es, total-cons e es)
          | Greater ↦ λ _. omega (arith, rest, total-cons e (put R k v es), total-cons e es)
        ] refl

    -- a sum over the values after an insertion, beside what the key had
    pub sum-insert : (m : FinMap R X) (k : K) (v : X) → sum_by h (map.values (map.insert m k v)) + option_map_or h (map.get m k) 0 ≡ sum_by h (map.values m) + h v
    sum-insert m k v =
        ap (λ es. total_of es + option_map_or h (map.get m k) 0) (entries-insert total m k v)
        ∙ ap (λ o. total_of (put R k v (map.entries m)) + option_map_or h o 0) (get-entries m k)
        ∙ total-put k v (map.entries m) (entries_sorted m)

-- ---- slots

-- no slots are none
pub slots-empty : slots_in map.empty ≡ 0
slots-empty = ap (λ es. sum_by (λ slots. map.len slots.places) (list_map (λ e. e.1) es)) (entries-empty nat_cmp)

abbrev count : SlotsOf → ℕ
count slots = map.len slots.places

found_is : (o : Option SlotsOf) → option_map_or count o 0 ≡ count (unwrap_or o no_slots)
found_is None = sym (len-empty nat_cmp ℕ)
found_is (Some slots) = refl

-- other slots for a CPU
pub slots-insert : (all : AllSlots) (cpu : ℕ) (slots : SlotsOf) → slots_in (map.insert all cpu slots) + count (unwrap_or (map.get all cpu) no_slots) ≡ slots_in all + count slots
slots-insert all cpu slots = ap (λ n. slots_in (map.insert all cpu slots) + n) (sym (found_is (map.get all cpu))) ∙ sum-insert nat_cmp_total count all cpu slots

-- one slot more for a CPU
pub slots-more : (all : AllSlots) (cpu : ℕ) (slots : SlotsOf) → count slots ≡ count (unwrap_or (map.get all cpu) no_slots) + 1 → slots_in (map.insert all cpu slots) ≡ slots_in all + 1
slots-more all cpu slots more = omega (arith, slots-insert all cpu slots)

-- what was removed, put back
back : {X : Type 0} (all : FinMap nat_cmp X) (cpu : ℕ) (slots : X) → map.get all cpu ≡ Some slots → map.insert (map.remove all cpu) cpu slots ≡ all
back all cpu slots is =
    same_map nat_cmp_total nat_cmp-IsAntisymmetric _ _ (λ q.
    get-insert nat_cmp_total (map.remove all cpu) cpu slots q
    ∙ again q _ (get-remove nat_cmp_total all cpu q)
    ∙ sym (get-insert nat_cmp_total all cpu slots q)
    ∙ ap (λ m. map.get m q) (insert_same nat_cmp_total nat_cmp-IsAntisymmetric all cpu slots is))
  where
    again : (q : ℕ) (b : Bool) → map.get (map.remove all cpu) q ≡ cond b None (map.get all q) → cond b (Some slots) (map.get (map.remove all cpu) q) ≡ cond b (Some slots) (map.get all q)
    again q true e = refl
    again q false e = e

pub remove_none : {X : Type 0} (all : FinMap nat_cmp X) (cpu : ℕ) → map.get all cpu ≡ None → map.remove all cpu ≡ all
remove_none all cpu none =
    same_map nat_cmp_total nat_cmp-IsAntisymmetric _ _ (λ q.
    ⊎_elim
    (λ s. ap (map.get (map.remove all cpu)) s ∙ get-remove_same nat_cmp_total all cpu ∙ sym none ∙ ap (map.get all) (sym s))
    (λ ne. get-remove_other nat_cmp_total nat_cmp-IsAntisymmetric all cpu q ne)
    (cases_eq q cpu))

-- the slots of a CPU that are there, taken out
slots-removed : (all : AllSlots) (cpu : ℕ) (slots : SlotsOf) → map.get all cpu ≡ Some slots → slots_in all ≡ slots_in (map.remove all cpu) + count slots
slots-removed all cpu slots is =
    let put_back = sum-insert nat_cmp_total count (map.remove all cpu) cpu slots in
    let none : option_map_or count (map.get (map.remove all cpu) cpu) 0 ≡ 0 = ap (λ o. option_map_or count o 0) (get-remove_same nat_cmp_total all cpu) in
    let whole : slots_in (map.insert (map.remove all cpu) cpu slots) ≡ slots_in all = ap slots_in (back all cpu slots is) in
    omega (arith, put_back, none, whole)

-- ---- a slot less

-- what a line had is one slot
pub len-without : (places : FinMap nat_cmp ℕ) (line : ℕ) → map.len places ≡ map.len (map.remove places line) + option_len (map.get places line)
len-without places line = at (map.get places line) refl
  where
    at : (o : Option ℕ) → map.get places line ≡ o → map.len places ≡ map.len (map.remove places line) + option_len o
    at None is = omega (arith, len-remove nat_cmp_total places line, ap (λ o. cond (is_some o) (map.len places - 1) (map.len places)) is)
    at (Some place) is =
        let put_back = len-insert nat_cmp_total (map.remove places line) line place in
        let none = ap (λ o. cond (is_some o) (map.len (map.remove places line)) (map.len (map.remove places line) + 1)) (get-remove_same nat_cmp_total places line) in
        omega (arith, put_back, none, ap map.len (back places line place is))

-- and so it is of all slots
pub slots-without : (all : AllSlots) (cpu line : ℕ) → slots_in all ≡ slots_in (all_without all cpu line) + option_len (option_and_then (λ slots. map.get slots.places line) (map.get all cpu))
slots-without all cpu line = at (map.get all cpu) refl
  where
    at : (o : Option SlotsOf) → map.get all cpu ≡ o → slots_in all ≡ slots_in (option_map_or (λ slots. map.insert all cpu (slots_without slots line)) o all) + option_len (option_and_then (λ slots. map.get slots.places line) o)
    at None is = omega arith
    at (Some slots) is =
        let changed = slots-insert all cpu (slots_without slots line) in
        let was = ap (λ o. count (unwrap_or o no_slots)) is in
        omega (arith, changed, was, len-without slots.places line)

-- a lane less
pub slots-unloaded : (all : AllSlots) (cpu : ℕ) → slots_in all ≡ slots_in (map.remove all cpu) + unwrap_or (option_map count (map.get all cpu)) 0
slots-unloaded all cpu = at (map.get all cpu) refl
  where
    at : (o : Option SlotsOf) → map.get all cpu ≡ o → slots_in all ≡ slots_in (map.remove all cpu) + unwrap_or (option_map count o) 0
    at None is = omega (arith, ap slots_in (remove_none all cpu is))
    at (Some slots) is = slots-removed all cpu slots is

-- ---- no slots at all

nothing : (n m : ℕ) → n + m ≡ 0 → m ≡ 0
nothing n m e = omega arith

-- if there are no slots, no store is too short
pub within-none : (all : AllSlots) → slots_in all ≡ 0 → AreWithin 0 all
within-none all none cpu slots is line place there =
    let lane : count slots ≡ 0 = nothing (slots_in (map.remove all cpu)) (count slots) (sym (slots-removed all cpu slots is) ∙ none) in
    absurd (none-some place (sym (get-empty nat_cmp line) ∙ ap (λ m. map.get m line) (sym (empty_of_len slots.places lane)) ∙ there))

-- ---- events are counted as slots

total-map : {X Y : Type 0} (f : X → Y) (g : Y → ℕ) (h : X → ℕ) → ((x : X) → g (f x) ≡ h x) → (es : List (ℕ × X)) → sum_by g (values_of (entries_by f es)) ≡ sum_by h (values_of es)
total-map f g h same [] = refl
total-map f g h same (e ∷ es) =
    sum_by-cons g (f e.1) (values_of (entries_by f es))
    ∙ (λ i. same e.1 i + total-map f g h same es i)
    ∙ sym (sum_by-cons h e.1 (values_of es))

-- seen through a function, a map is as long
pub len-map_by : {X Y : Type 0} (f : X → Y) (m : FinMap nat_cmp X) → map.len (map_by f m) ≡ map.len m
len-map_by f m = len-entries (map_by f m) ∙ ap length (entries-map_by f nat_cmp_total m) ∙ length-map (map.entries m) (λ e. (e.0, f e.1)) ∙ sym (len-entries m)

-- the lanes hold an event for each slot
pub held-slots : (f : ℕ → Traced) (all : AllSlots) → held_in (lanes_by f all) ≡ slots_in all
held-slots f all =
    ap (λ es. sum_by (λ lane. map.len lane.events) (values_of es)) (entries-map_by (lane_by f) nat_cmp_total all)
    ∙ total-map (lane_by f) (λ lane. map.len lane.events) count (λ slots. len-map_by f slots.places) (map.entries all)

-- ---- what is stored

-- nothing is stored in a store of any length
pub stored-none : (n m held : ℕ) (all : AllSlots) → AreStored n held all → held ≡ 0 → AreStored m held all
stored-none n m held all are none = record {
  within = within-longer 0 m (omega arith) all (within-none all (sym are.counted ∙ none));
  counted = are.counted;
  few = omega arith;
}

-- one more event in the store, and its slot
pub stored-with : (n held : ℕ) (all new : AllSlots) (cpu place : ℕ) → AreStored n held all → place ≡ n → new ≡ all_with all cpu place → slots_in new ≡ slots_in all + 1 → AreStored (n + 1) (held + 1) new
stored-with n held all new cpu place are is e more = record {
  within = subst (AreWithin (n + 1)) (sym e) (within-with (n + 1) all cpu place (within-longer n (n + 1) (omega arith) all are.within) (omega arith));
  counted = omega (arith, are.counted);
  few = omega (arith, are.few);
}

-- a slot less
pub stored-without : (n held : ℕ) (all new : AllSlots) (cpu line gone : ℕ) → AreStored n held all → new ≡ all_without all cpu line → slots_in all ≡ slots_in new + gone → AreStored n (held - gone) new
stored-without n held all new cpu line gone are e less = record {
  within = subst (AreWithin n) (sym e) (within-without n all cpu line are.within);
  counted = omega (arith, are.counted);
  few = omega (arith, are.few);
}

-- a lane less
pub stored-unloaded : (n held : ℕ) (all new : AllSlots) (cpu gone : ℕ) → AreStored n held all → new ≡ map.remove all cpu → slots_in all ≡ slots_in new + gone → AreStored n (held - gone) new
stored-unloaded n held all new cpu gone are e less = record {
  within = subst (AreWithin n) (sym e) (within-unloaded n all cpu are.within);
  counted = omega (arith, are.counted);
  few = omega (arith, are.few);
}
