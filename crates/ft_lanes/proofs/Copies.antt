-- Lanes copied after a store one after another.
use Rattle.std.proofs.Common.{◌≡◌, ℕ, ◌+◌, ◌<◌, List, [], ◌∷◌, ◌++◌, length, fold, refl, sym, ap, ◌∙◌, subst, Some, ⊎_elim, unwrap_or, arith}
use Rattle.std.specs.List.{sum_by, AllByRecursion}
use Rattle.std.specs.List.Sorted.{IsStrictlySortedBy}
use Rattle.std.specs.Ordering.{nat_cmp}
use Rattle.std.specs.Cmp.{nat_cmp_total}
use Rattle.std.specs.Map.{keys_of, values_of}
use Rattle.std.specs.FinMap as map
use Rattle.std.specs.FinMap.{FinMap, find, entries_sorted, get-entries, get-from_entries, len-entries, same_map, nat_cmp-IsAntisymmetric}
use Rattle.std.proofs.lemmas.Bool.{cases_eq}
use Rattle.std.proofs.lemmas.List.{length-append, length-map}
use Rattle.std.proofs.lemmas.List.Sums.{sum_by-cons}
use Rattle.std.proofs.lemmas.Option.{none-some}
use Rattle.ft_fields.specs.Traced.{Traced}
use Rattle.ft_maps.specs.Entries.{entries-from_entries, strictly_sorted}
use Rattle.ft_maps.specs.Mapped.{entries_by, map_by, map_by-insert}
use Rattle.ft_lanes.specs.Held.{Lane, Lanes, held_in}
use Rattle.ft_store.specs.Stored.{stored_at}
use Rattle.ft_lanes.specs.inner.Slots.{AllSlots, placed_from, slots_from, lane_by, lanes_by, slots_in, SlotsAreWithin, AreWithin, AreStored}
use Rattle.ft_lanes.specs.inner.Rows.{Rise, AreBelow}
use Rattle.ft_lanes.proofs.Counts.{held-slots}
use Rattle.ft_lanes.proofs.Each.{each-insert, within-empty, within-longer}
use Rattle.ft_lanes.proofs.Loads.{Stands, stands}
use Rattle.ft_lanes.proofs.Puts.{put_one, put-all, find-here, find-there}
use Rattle.ft_lanes.proofs.Views.{lanes-appended, lanes-empty}

some_is : {x y : ℕ} → Some x ≡ Some y → x ≡ y
some_is {x} e = ap (λ o. unwrap_or o x) e

-- ---- lines at rising places

placed-keys : (n : ℕ) (lines : List ℕ) → keys_of (placed_from n lines) ≡ lines
placed-keys n [] = refl
placed-keys n (line ∷ lines) = ap (λ (l : List ℕ). line ∷ l) (placed-keys (n + 1) lines)

placed-within : (n : ℕ) (lines : List ℕ) (line place : ℕ) → find nat_cmp line (placed_from n lines) ≡ Some place → place < n + length lines
placed-within n [] line place is = absurd (none-some place is)
placed-within n (l ∷ lines) line place is =
    ⊎_elim
    (λ s.
    let same : Some n ≡ Some place = sym (ap (λ k. find nat_cmp k (placed_from n (l ∷ lines))) s ∙ find-here l n (placed_from (n + 1) lines)) ∙ is in
    let at : n ≡ place = some_is same in
    omega (arith, at))
    (λ ne.
    let rest : place < n + 1 + length lines = placed-within (n + 1) lines line place (sym (find-there line (l, n) (placed_from (n + 1) lines) ne) ∙ is) in
    omega (arith, rest))
    (cases_eq line l)

-- what stands at the places is what the entries hold
placed-seen : (f : ℕ → Traced) (n : ℕ) (es : List (ℕ × Traced)) → Stands f n (values_of es) → entries_by f (placed_from n (keys_of es)) ≡ es
placed-seen f n [] s = refl
placed-seen f n (e ∷ es) s = λ i. (e.0, s.0 i) ∷ placed-seen f (n + 1) es s.1 i

-- ---- the slots of one lane

module _ (n : ℕ) (lane : Lane) where
  abbrev es : List (ℕ × Traced)
  es = map.entries lane.events

  -- its lines rise
  pub copy-rises : Rise (placed_from n (keys_of es))
  copy-rises = subst (IsStrictlySortedBy nat_cmp) (sym (placed-keys n (keys_of es))) (strictly_sorted nat_cmp es (entries_sorted lane.events))

  -- below its next number
  pub copy-below : (next : ℕ) → AllByRecursion (λ line. line < next) (keys_of es) → AreBelow next (placed_from n (keys_of es))
  copy-below next above = subst (AllByRecursion (λ line. line < next)) (sym (placed-keys n (keys_of es))) above

  copy-within : SlotsAreWithin (n + length es) (slots_from n lane)
  copy-within line place is =
      let lt : place < n + length (keys_of es) = placed-within n (keys_of es) line place (sym (get-from_entries nat_cmp_total (placed_from n (keys_of es)) line) ∙ is) in
      omega (arith, lt, length-map es (λ e. e.0))

whole : {X : Type 0} (m : FinMap nat_cmp X) → map.from_entries (map.entries m) ≡ m
whole m = same_map nat_cmp_total nat_cmp-IsAntisymmetric _ _ (λ q. get-from_entries nat_cmp_total (map.entries m) q ∙ sym (get-entries m q))

-- they stand for the lane
lane-copied : (store : List Traced) (lane : Lane) → lane_by (stored_at (store ++ values_of (map.entries lane.events))) (slots_from (length store) lane) ≡ lane
lane-copied store lane =
    let entries = map.entries lane.events in
    let at = stored_at (store ++ values_of entries) in
    let placed = placed_from (length store) (keys_of entries) in
    let events : map_by at (map.from_entries {R = nat_cmp} placed) ≡ lane.events =
    ap (λ l. map.from_entries (entries_by at l)) (entries-from_entries nat_cmp_total placed (copy-rises (length store) lane))
    ∙ ap map.from_entries (placed-seen at (length store) entries (stands store (values_of entries)))
    ∙ whole lane.events in
    λ i. record { events = events i; next = lane.next }

-- ---- lane by lane

abbrev events_in : List (ℕ × Lane) → ℕ
events_in lanes = sum_by (λ lane. map.len lane.events) (values_of lanes)

-- what holds while these lanes are left
pub record Copying (all : Lanes) (store : List Traced) (slots : AllSlots) (rest : List (ℕ × Lane)) : Type 0 where
  pub leads : fold put_one (lanes_by (stored_at store) slots) rest ≡ all
  pub within : AreWithin (length store) slots
  pub long : length store + events_in rest ≡ held_in all

pub copying-start : (all : Lanes) → Copying all [] map.empty (map.entries all)
copying-start all = record {
  leads = ap (λ m. fold put_one m (map.entries all)) (lanes-empty (stored_at [])) ∙ put-all all;
  within = within-empty 0;
  long = omega arith;
}

-- one lane less is left
pub copying-step : (all : Lanes) (store : List Traced) (slots : AllSlots) (e : ℕ × Lane) (rest : List (ℕ × Lane)) → Copying all store slots (e ∷ rest) → Copying all (store ++ values_of (map.entries e.1.events)) (map.insert slots e.0 (slots_from (length store) e.1)) rest
copying-step all store slots e rest is =
    let more = values_of (map.entries e.1.events) in
    let at = stored_at (store ++ more) in
    let copy = slots_from (length store) e.1 in
    let n = length (store ++ more) in
    let longer : n ≡ length store + length (map.entries e.1.events) = omega (arith, length-append store more, length-map (map.entries e.1.events) (λ x. x.1)) in
    let shown : lanes_by at (map.insert slots e.0 copy) ≡ map.insert (lanes_by (stored_at store) slots) e.0 e.1 =
    map_by-insert (lane_by at) nat_cmp_total nat_cmp-IsAntisymmetric slots e.0 copy
    ∙ (λ i. map.insert (lanes-appended store more slots is.within i) e.0 (lane-copied store e.1 i)) in
    record {
      leads = ap (λ m. fold put_one m rest) shown ∙ is.leads;
      within = each-insert (SlotsAreWithin n) slots e.0 copy (within-longer (length store) n (omega (arith, longer)) slots is.within) (subst (λ k. SlotsAreWithin k copy) (sym longer) (copy-within (length store) e.1));
      long = omega (arith, is.long, longer, len-entries e.1.events, sum_by-cons (λ (lane : Lane). map.len lane.events) e.1 (values_of rest));
    }

-- and in the end none is
pub copied-stored : (all : Lanes) (store : List Traced) (slots : AllSlots) (held : ℕ) → Copying all store slots [] → held ≡ held_in all → AreStored (length store) held slots
copied-stored all store slots held is same =
    let counted : slots_in slots ≡ held_in all = sym (held-slots (stored_at store) slots) ∙ ap held_in is.leads in
    record { within = is.within; counted = omega (arith, counted, same); few = omega (arith, is.long, same) }
