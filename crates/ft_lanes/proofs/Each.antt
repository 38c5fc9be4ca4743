-- A property of each value of a map, as the map is edited.
use Rattle.std.proofs.Common.{◌≡◌, ℕ, zero, suc, ◌+◌, length, get_or, List, [], ◌∷◌, ◌<◌, ◌≤◌, refl, sym, ap, ◌∙◌, subst, Option, Some, None, unwrap_or, ⊎_elim, arith}
use Rattle.std.specs.List.{AllByRecursion}
use Rattle.std.specs.Option.{option_map_or}
use Rattle.std.specs.Ordering.{nat_cmp}
use Rattle.std.specs.Cmp.{nat_cmp_total}
use Rattle.std.specs.FinMap as map
use Rattle.std.specs.FinMap.{FinMap, nat_cmp-IsAntisymmetric, get-empty}
use Rattle.std.proofs.lemmas.Bool.{cases_eq}
use Rattle.std.proofs.lemmas.List.{get_or_default}
use Rattle.std.proofs.lemmas.Option.{none-some}
use Rattle.ft_maps.specs.Entries.{get-insert_same, get-insert_other, get-remove_same, get-remove_other}
use Rattle.ft_lanes.specs.inner.Slots.{SlotsOf, AllSlots, Each, SlotsAreWithin, AreWithin, no_slots, slots_with, slots_without, all_with, all_without}

module _ {X : Type 0} (P : X → Type 0) where
  pub each-empty : Each P map.empty
  each-empty k v is = absurd (none-some v (sym (get-empty nat_cmp k) ∙ is))

  pub each-insert : (m : FinMap nat_cmp X) (k : ℕ) (v : X) → Each P m → P v → Each P (map.insert m k v)
  each-insert m k v all here q w is =
      ⊎_elim
      (λ s. subst P (some_is (sym (get-insert_same nat_cmp_total m k v) ∙ ap (map.get (map.insert m k v)) (sym s) ∙ is)) here)
      (λ ne. all q w (sym (get-insert_other nat_cmp_total nat_cmp-IsAntisymmetric m k v q ne) ∙ is))
      (cases_eq q k)
    where
      some_is : {x y : X} → Some x ≡ Some y → x ≡ y
      some_is {x} e = ap (λ o. unwrap_or o x) e

  pub each-remove : (m : FinMap nat_cmp X) (k : ℕ) → Each P m → Each P (map.remove m k)
  each-remove m k all q w is =
      ⊎_elim
      (λ s. absurd (none-some w (sym (get-remove_same nat_cmp_total m k) ∙ ap (map.get (map.remove m k)) (sym s) ∙ is)))
      (λ ne. all q w (sym (get-remove_other nat_cmp_total nat_cmp-IsAntisymmetric m k q ne) ∙ is))
      (cases_eq q k)

  -- what a key has, or else a value that has the property
  pub each-or : (m : FinMap nat_cmp X) (k : ℕ) (v : X) → Each P m → P v → P (unwrap_or (map.get m k) v)
  each-or m k v all p = at (map.get m k) refl
    where
      at : (o : Option X) → map.get m k ≡ o → P (unwrap_or o v)
      at None is = p
      at (Some w) is = all k w is

-- no slots are places of any store
pub within-empty : (n : ℕ) → AreWithin n map.empty
within-empty n = each-empty (SlotsAreWithin n)

-- places of a store are places of a longer one
pub within-longer : (n m : ℕ) → n ≤ m → (all : AllSlots) → AreWithin n all → AreWithin m all
within-longer n m le all within cpu slots is line place there =
    let lt : place < n = within cpu slots is line place there in
    omega arith

-- one more place of the store
pub within-with : (n : ℕ) (all : AllSlots) (cpu place : ℕ) → AreWithin n all → place < n → AreWithin n (all_with all cpu place)
within-with n all cpu place within lt =
    let slots = unwrap_or (map.get all cpu) no_slots in
    let old : SlotsAreWithin n slots = each-or (SlotsAreWithin n) all cpu no_slots within (each-empty (λ p. p < n)) in
    each-insert (SlotsAreWithin n) all cpu (slots_with slots place) within (each-insert (λ p. p < n) slots.places slots.next place old lt)

-- one slot less
pub within-without : (n : ℕ) (all : AllSlots) (cpu line : ℕ) → AreWithin n all → AreWithin n (all_without all cpu line)
within-without n all cpu line within = at (map.get all cpu) refl
  where
    at : (o : Option SlotsOf) → map.get all cpu ≡ o → AreWithin n (option_map_or (λ slots. map.insert all cpu (slots_without slots line)) o all)
    at None is = within
    at (Some slots) is = each-insert (SlotsAreWithin n) all cpu (slots_without slots line) within (each-remove (λ p. p < n) slots.places line (within cpu slots is))

-- one lane less
pub within-unloaded : (n : ℕ) (all : AllSlots) (cpu : ℕ) → AreWithin n all → AreWithin n (map.remove all cpu)
within-unloaded n all cpu within = each-remove (SlotsAreWithin n) all cpu within

-- ---- a property of each element of a list

-- what has it at each place has it everywhere
pub all-from_each : {X : Type 0} (P : X → Type 0) (xs : List X) → ((k : ℕ) (d : X) → k < length xs → P (get_or xs k d)) → AllByRecursion P xs
all-from_each P [] each = tt
all-from_each P (x ∷ xs) each = (each zero x (omega arith), all-from_each P xs (λ k d lt. each (suc k) d (omega arith)))

-- one more element that has it, below a place
pub each-more : {X : Type 0} (P : X → Type 0) (xs : List X) (i : ℕ) (x : X) → i < length xs → P (get_or xs i x) → ((k : ℕ) (d : X) → k < i → P (get_or xs k d)) → (k : ℕ) (d : X) → k < i + 1 → P (get_or xs k d)
each-more P xs i x lt here below k d k_lt =
    ⊎_elim
    (λ s. subst (λ n. P (get_or xs n d)) (sym s) (subst P (get_or_default xs i x d lt) here))
    (λ ne. below k d (omega arith))
    (cases_eq k i)
