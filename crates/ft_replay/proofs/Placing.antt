-- Held events in order of their places are the entries of the merged events.
use Rattle.std.proofs.Common.{◌≡◌, ◌<◌, ◌+◌, ℕ, Bool, true, false, cond, List, [], ◌∷◌, ◌++◌, length, get_or, map as list_map, refl, sym, ap, subst, ◌∙◌, arith, Some, None, Option, Ok, Err, Result}
use Rattle.std.specs.Prelude.{◌&&◌, ⊤, fold, filter, IfOk, OnOk, IsPermutation}
use Rattle.std.specs.List.{AllByRecursion, IsDistinct, flat_map}
use Rattle.std.specs.List.Sorted.{IsSortedByKey, IsStrictlySortedBy}
use Rattle.std.specs.Option.{option_or}
use Rattle.std.specs.declared.cmp.Ordering.{Ordering}
use Rattle.std.specs.declared.cmp.Ordering.TheVariants.{Less}
use Rattle.std.specs.Ordering.{nat_cmp, is_lt, is_eq, eq_by_cmp, ordering_then}
use Rattle.std.specs.Cmp.{IsTotalOrder, eq_by_cmp_equiv, tied_then}
use Rattle.std.specs.Map.{keys_of, lookup}
use Rattle.std.specs.FinMap as map
use Rattle.std.specs.FinMap.{FinMap, IsAntisymmetric, find, get-entries, get-empty, get-from_entries, get-insert, entries_sorted, same_map}
use Rattle.std.proofs.lemmas.List.{get_or-map}
use Rattle.std.proofs.lemmas.List.Sorted.{Contains-permutation, IsPermutation-map, IsPermutation-sym}
use Rattle.std.proofs.lemmas.Map.Entries.{option_filter, lookup-filter-values, length-keys_of}
use Rattle.std.proofs.lemmas.Map.Keys.{IsDistinct-from_sorted, IsDistinct-head, IsDistinct-tail, IsDistinct-IsPermutation, apart_from_distinct, sorted_from_all_adjacent}
use Rattle.std.proofs.lemmas.Map.Made.{IsDistinct-keys_filter, keys_of-map_values}
use Rattle.std.proofs.lemmas.Map.Views.{Contains-from_lookup, lookup-from_Contains}
use Rattle.ft_hits.proofs.Runs.{or_none}
use Rattle.ft_table.proofs.Rising.{below}
use Rattle.ft_fields.specs.Traced.{Traced, name_of}
use Rattle.ft_fields.specs.declared.event.Name.{Name}
use Rattle.ft_fields.specs.declared.pos.Pos.{Pos}
use Rattle.ft_fields.specs.Places.{pos_cmp, pos_cmp_total, pos_same}
use Rattle.ft_maps.specs.Entries.{entries-from_entries, same_from_tie, strictly_sorted}
use Rattle.ft_maps.specs.Mapped.{entries_by}
use Rattle.ft_maps.proofs.Common.{and_false, all_map}
use Rattle.ft_lanes.specs.Held.{Lane, Lanes}
use Rattle.ft_base.specs.Base.{Triggers}
use Rattle.ft_replay.specs.Merged.{Events, place_of, placed, merged}
use Rattle.ft_replay.specs.Named.{is_on, is_named, named, events_on}
use Rattle.ft_base.proofs.Apart.{AreApart, entries_apart, all_of, all_append}
use Rattle.ft_replay.proofs.Naming.{has_one, entries-on, named-on}

pub on_ok : {X E : Type 0} (r : Result X E) (P Q : Type 0) → (P → Q) → OnOk r P → OnOk r Q
on_ok (Ok x) P Q f h = f h
on_ok (Err e) P Q f h = tt

pub if_ok : {X E : Type 0} (r : Result X E) (P Q : X → Type 0) → ((x : X) → P x → Q x) → IfOk r P → IfOk r Q
if_ok (Ok x) P Q f h = f x h
if_ok (Err e) P Q f h = tt

as_other : {X : Type 0} (a b : Option X) → ((v : X) → a ≡ Some v → b ≡ Some v) → ((v : X) → b ≡ Some v → a ≡ Some v) → a ≡ b
as_other None None f g = refl
as_other None (Some v) f g = g v refl
as_other (Some v) b f g = sym (f v refl)

module _ {K X : Type 0} {R : K → K → Ordering} (total : IsTotalOrder R) (same : IsAntisymmetric R) where
  -- ---- entries of which no two have one key

  abbrev AreDistinct : List (K × X) → Type 0
  AreDistinct es = IsDistinct (eq_by_cmp R) (keys_of es)

  found : (q : K) (es : List (K × X)) → find R q es ≡ lookup (eq_by_cmp R q) es
  found q [] = refl
  found q (e ∷ es) = ap (cond (eq_by_cmp R q e.0) (Some e.1)) (found q es)

  -- in another order they have the same look-ups
  has : (q : K) (v : X) (xs ys : List (K × X)) → IsPermutation xs ys → AreDistinct ys → find R q xs ≡ Some v → find R q ys ≡ Some v
  has q v xs ys moved distinct is =
      found q ys ∙ lookup-from_Contains (eq_by_cmp_equiv total) q v ys distinct
      (Contains-permutation xs ys (q, v) moved (Contains-from_lookup (same_from_tie same) q v xs (sym (found q xs) ∙ is)))

  pub find-moved : (q : K) (xs ys : List (K × X)) → IsPermutation xs ys → AreDistinct xs → AreDistinct ys → find R q xs ≡ find R q ys
  find-moved q xs ys moved one other = as_other (find R q xs) (find R q ys) (λ v. has q v xs ys moved other) (λ v. has q v ys xs (IsPermutation-sym xs ys moved) one)

  find-filter : (p : X → Bool) (q : K) (es : List (K × X)) → AreDistinct es → find R q (filter (λ e. p e.1) es) ≡ option_filter p (find R q es)
  find-filter p q es distinct =
      found q (filter (λ e. p e.1) es) ∙ lookup-filter-values (eq_by_cmp_equiv total) p q es distinct ∙ ap (option_filter p) (sym (found q es))

  find-none : (q : K) (es : List (K × X)) → AllByRecursion (λ k. eq_by_cmp R q k ≡ false) (keys_of es) → find R q es ≡ None
  find-none q [] h = refl
  find-none q (e ∷ es) h = ap (λ b. cond b (Some e.1) (find R q es)) h.0 ∙ find-none q es h.1

  -- and inserting them all, the last is as the first
  one_more : (q : K) (e : K × X) (es : List (K × X)) (old : Option X) → AreDistinct (e ∷ es) → (tie : Bool) → eq_by_cmp R q e.0 ≡ tie
      → option_or (find R q es) (cond tie (Some e.1) old) ≡ option_or (cond tie (Some e.1) (find R q es)) old
  one_more q e es old distinct false is = refl
  one_more q e es old distinct true is =
      ap (λ (o : Option X). option_or o (Some e.1)) (find-none q es
      (subst (λ k. AllByRecursion (λ y. eq_by_cmp R k y ≡ false) (keys_of es)) (sym (same_from_tie same q e.0 is)) (IsDistinct-head (eq_by_cmp R) e.0 (keys_of es) distinct)))

  pub get-inserted : (q : K) (m : FinMap R X) (es : List (K × X)) → AreDistinct es → map.get (fold (λ all e. map.insert all e.0 e.1) m es) q ≡ option_or (find R q es) (map.get m q)
  get-inserted q m [] distinct = refl
  get-inserted q m (e ∷ es) distinct =
      get-inserted q (map.insert m e.0 e.1) es (IsDistinct-tail (eq_by_cmp R) e.0 (keys_of es) distinct)
      ∙ ap (option_or (find R q es)) (get-insert total m e.0 e.1 q)
      ∙ one_more q e es (map.get m q) distinct (eq_by_cmp R q e.0) refl

  -- in order they are the entries of a map with the same look-ups
  entries-moved : (m : FinMap R X) (xs ys : List (K × X)) → ((q : K) → find R q xs ≡ map.get m q) → IsPermutation xs ys → AreDistinct xs → IsStrictlySortedBy R (keys_of ys) → ys ≡ map.entries m
  entries-moved m xs ys same_found moved distinct sorted =
      sym (entries-from_entries total ys sorted)
      ∙ ap map.entries (same_map total same (map.from_entries ys) m (λ q.
      get-from_entries total ys q ∙ sym (find-moved q xs ys moved distinct (IsDistinct-from_sorted R (keys_of ys) sorted)) ∙ same_found q))

  -- sorted by their keys, they ascend
  ascends : (xs : List (K × X)) → IsSortedByKey (λ e. e.0) R xs → AreDistinct xs → IsStrictlySortedBy R (keys_of xs)
  unfolding IsStrictlySortedBy
  ascends [] up distinct = tt
  ascends (x ∷ xs) up distinct = sorted_from_all_adjacent total (keys_of (x ∷ xs)) x.0 (λ k inside.
      let within : k + 1 < length (x ∷ xs) = subst (λ n. k + 1 < n) (length-keys_of (x ∷ xs)) inside in
      let at : get_or (keys_of (x ∷ xs)) k x.0 ≡ (get_or (x ∷ xs) k x).0 = get_or-map (λ e. e.0) (x ∷ xs) k x x.0 (omega (arith, within)) in
      let next : get_or (keys_of (x ∷ xs)) (k + 1) x.0 ≡ (get_or (x ∷ xs) (k + 1) x).0 = get_or-map (λ e. e.0) (x ∷ xs) (k + 1) x x.0 within in
      below (R (get_or (keys_of (x ∷ xs)) k x.0) (get_or (keys_of (x ∷ xs)) (k + 1) x.0))
      (ap is_lt (sym (total.antisymm _ _)) ∙ (λ i. is_lt (R (next i) (at i))) ∙ up k x (omega arith) within)
      (apart_from_distinct (eq_by_cmp R) (keys_of (x ∷ xs)) k (k + 1) x.0 distinct (omega arith) inside))

-- ---- the places of held events

abbrev IsApart : Pos → Pos → Type 0
IsApart a b = eq_by_cmp pos_cmp a b ≡ false

on_cpu : (a b : Pos) → nat_cmp a.cpu b.cpu ≡ Less → IsApart a b
on_cpu a b below =
    sym (tied_then (nat_cmp a.stamp b.stamp) (ordering_then (nat_cmp a.cpu b.cpu) (nat_cmp a.line b.line)))
    ∙ ap (λ o. is_eq (nat_cmp a.stamp b.stamp) && is_eq (ordering_then o (nat_cmp a.line b.line))) below ∙ and_false (is_eq (nat_cmp a.stamp b.stamp))

on_line : (a b : Pos) → nat_cmp a.line b.line ≡ Less → IsApart a b
on_line a b below =
    sym (tied_then (nat_cmp a.stamp b.stamp) (ordering_then (nat_cmp a.cpu b.cpu) (nat_cmp a.line b.line)))
    ∙ ap (λ c. is_eq (nat_cmp a.stamp b.stamp) && c) (sym (tied_then (nat_cmp a.cpu b.cpu) (nat_cmp a.line b.line)) ∙ ap (λ o. is_eq (nat_cmp a.cpu b.cpu) && is_eq o) below ∙ and_false (is_eq (nat_cmp a.cpu b.cpu)))
    ∙ and_false (is_eq (nat_cmp a.stamp b.stamp))

-- each is apart from those after it
abbrev Differ : List (Pos × Traced) → Type 0
Differ [] = ⊤
Differ (e ∷ es) = AllByRecursion (λ q. IsApart e.0 q.0) es × Differ es

differ_append : (xs ys : List (Pos × Traced)) → Differ xs → Differ ys → AllByRecursion (λ x. AllByRecursion (λ q. IsApart x.0 q.0) ys) xs → Differ (xs ++ ys)
differ_append [] ys p q h = q
differ_append (x ∷ xs) ys p q h = (all_append (λ q. IsApart x.0 q.0) xs ys p.0 h.0, differ_append xs ys p.1 q h.1)

distinct_from : (es : List (Pos × Traced)) → Differ es → IsDistinct (eq_by_cmp pos_cmp) (keys_of es)
unfolding IsDistinct
distinct_from [] h = tt
distinct_from (e ∷ es) h = (keys es h.0, distinct_from es h.1)
  where
    keys : (es : List (Pos × Traced)) → AllByRecursion (λ q. IsApart e.0 q.0) es → AllByRecursion (λ k. IsApart e.0 k) (keys_of es)
    keys [] h = tt
    keys (q ∷ es) h = (h.0, keys es h.1)

module _ (cpu : ℕ) where
  abbrev at_place : ℕ × Traced → Pos × Traced
  at_place entry = (place_of cpu entry, entry.1)

  -- what holds of each event of some lines
  on_lines : (P : Pos × Traced → Type 0) (es : List (ℕ × Traced)) → AllByRecursion (λ e. P (at_place e)) es → AllByRecursion P (list_map at_place es)
  on_lines P [] h = tt
  on_lines P (e ∷ es) h = (h.0, on_lines P es h.1)

  lines_differ : (es : List (ℕ × Traced)) → AreApart nat_cmp es → Differ (list_map at_place es)
  lines_differ [] h = tt
  lines_differ (e ∷ es) h = (
    on_lines (λ q. IsApart (place_of cpu e) q.0) es (all_map _ _ (λ q below. on_line (place_of cpu e) (place_of cpu q) below) es h.0),
    lines_differ es h.1,
  )

-- what holds of each event of some lanes
on_lanes : (P : Pos × Traced → Type 0) (lanes : List (ℕ × Lane)) → AllByRecursion (λ lane. AllByRecursion P (placed lane)) lanes → AllByRecursion P (flat_map placed lanes)
on_lanes P [] h = tt
on_lanes P (lane ∷ lanes) h = all_append P (placed lane) (flat_map placed lanes) h.0 (on_lanes P lanes h.1)

lanes_differ : (lanes : List (ℕ × Lane)) → AreApart nat_cmp lanes → Differ (flat_map placed lanes)
lanes_differ [] h = tt
lanes_differ (lane ∷ lanes) h =
    differ_append (placed lane) (flat_map placed lanes) (lines_differ lane.0 (map.entries lane.1.events) (entries_apart nat_cmp lane.1.events)) (lanes_differ lanes h.1)
    (on_lines lane.0 (λ x. AllByRecursion (λ q. IsApart x.0 q.0) (flat_map placed lanes)) (map.entries lane.1.events) (all_of _ (λ e.
    on_lanes (λ q. IsApart (place_of lane.0 e) q.0) lanes (all_map _ _ (λ other below.
    on_lines other.0 (λ q. IsApart (place_of lane.0 e) q.0) (map.entries other.1.events) (all_of _ (λ x. on_cpu (place_of lane.0 e) (place_of other.0 x) below) (map.entries other.1.events))) lanes h.0)) (map.entries lane.1.events)))

-- ---- those of some names

module _ (names : Name → Bool) (lanes : Lanes) where
  -- all held events, lane by lane
  abbrev by_lane : List (Pos × Traced)
  by_lane = flat_map placed (map.entries lanes)

  all_distinct : IsDistinct (eq_by_cmp pos_cmp) (keys_of by_lane)
  all_distinct = distinct_from by_lane (lanes_differ (map.entries lanes) (entries_apart nat_cmp lanes))

  find-all : (q : Pos) → find pos_cmp q by_lane ≡ map.get (merged lanes) q
  unfolding merged
  find-all q =
      sym (get-inserted pos_cmp_total pos_same q map.empty by_lane all_distinct
      ∙ ap (option_or (find pos_cmp q by_lane)) (get-empty {X = Traced} pos_cmp q)
      ∙ or_none (find pos_cmp q by_lane))

  -- what the events of the names have at a place
  pub get-on : (events : Events) (q : Pos) → map.get (events_on names events) q ≡ option_filter (λ event. names (name_of event.body)) (map.get events q)
  get-on events q =
      get-entries (events_on names events) q
      ∙ ap (find pos_cmp q) (entries-on names events)
      ∙ find-filter pos_cmp_total pos_same (λ event. names (name_of event.body)) q (map.entries events) (IsDistinct-from_sorted pos_cmp (map.keys events) (strictly_sorted pos_cmp (map.entries events) (entries_sorted events)))
      ∙ ap (option_filter (λ event. names (name_of event.body))) (sym (get-entries events q))

  find-kept : (q : Pos) → find pos_cmp q (filter (has_one names) by_lane) ≡ map.get (events_on names (merged lanes)) q
  find-kept q =
      find-filter pos_cmp_total pos_same (λ event. names (name_of event.body)) q by_lane all_distinct
      ∙ ap (option_filter (λ event. names (name_of event.body))) (find-all q)
      ∙ sym (get-on (merged lanes) q)

  -- in order of their places they are the entries of the merged events
  pub in_order : {Y : Type 0} (g : Y → Traced) (events : List (Pos × Y)) → IsPermutation (filter (has_one names) by_lane) (entries_by g events)
      → IsSortedByKey (λ e. e.0) pos_cmp events → entries_by g events ≡ map.entries (events_on names (merged lanes))
  in_order g events moved up =
      let kept : IsDistinct (eq_by_cmp pos_cmp) (keys_of (filter (has_one names) by_lane)) = IsDistinct-keys_filter (eq_by_cmp pos_cmp) (has_one names) by_lane all_distinct in
      let seen : IsDistinct (eq_by_cmp pos_cmp) (keys_of (entries_by g events)) =
      IsDistinct-IsPermutation (eq_by_cmp pos_cmp) (eq_by_cmp_equiv pos_cmp_total).symm (keys_of (filter (has_one names) by_lane)) (keys_of (entries_by g events)) (IsPermutation-map (λ e. e.0) _ _ moved) kept in
      let last : IsDistinct (eq_by_cmp pos_cmp) (keys_of events) = subst (IsDistinct (eq_by_cmp pos_cmp)) (keys_of-map_values g events) seen in
      entries-moved pos_cmp_total pos_same (events_on names (merged lanes)) (filter (has_one names) by_lane) (entries_by g events) find-kept moved kept
      (subst (IsStrictlySortedBy pos_cmp) (sym (keys_of-map_values g events)) (ascends pos_cmp_total pos_same events up last))

-- what the events whose name some trigger is on have at a place
pub get-named : (triggers : Triggers) (lanes : Lanes) (events : Events) (q : Pos) → map.get (named triggers events) q ≡ option_filter (is_named triggers) (map.get events q)
get-named triggers lanes events q = ap (λ (m : Events). map.get m q) (named-on triggers events) ∙ get-on (is_on triggers) lanes events q
