-- Made events stand in order of their spots, one at each, and by spot they are what readings make.
use Rattle.std.proofs.Common.{◌≡◌, ℕ, Bool, true, false, cond, List, [], ◌∷◌, ◌++◌, map as list_map, refl, sym, ap, subst, ◌∙◌, Some, None, Option}
use Rattle.std.specs.Prelude.{◌&&◌, ◌||◌, filter_map, option_map, option_and_then}
use Rattle.std.specs.Cmp.{tied_then}
use Rattle.std.specs.List.{AllByRecursion, cons_option, flat_map, list_any}
use Rattle.std.specs.List.Sorted.{IsStrictlySortedBy}
use Rattle.std.specs.Map.{keys_of}
use Rattle.std.specs.declared.cmp.Ordering.{Ordering}
use Rattle.std.specs.declared.cmp.Ordering.TheVariants.{Less}
use Rattle.std.specs.Ordering.{nat_cmp, eq_by_cmp, is_eq, ordering_then}
use Rattle.std.specs.FinMap as map
use Rattle.std.specs.FinMap.{IsAntisymmetric, contains_key-keys, find, get-from_entries}
use Rattle.std.proofs.lemmas.Cmp.{tied_itself}
use Rattle.std.proofs.lemmas.List.Folds.{list_any-append}
use Rattle.ft_fields.specs.Traced.{Traced}
use Rattle.ft_fields.specs.declared.pos.Pos.{Pos}
use Rattle.ft_fields.specs.Places.{pos_cmp, pos_cmp_total}
use Rattle.ft_hist.specs.Hist.{Hist}
use Rattle.ft_hist.specs.Made.{made_of}
use Rattle.ft_hist.specs.Triggers.{Triggers}
use Rattle.ft_maps.specs.Entries.{entries-from_entries, same_from_tie}
use Rattle.ft_maps.proofs.Common.{all_map, and_false, cond_same}
use Rattle.ft_hits.specs.declared.spot.Spot.{Spot}
use Rattle.ft_table.specs.Spots.{spot_cmp, spot_cmp_total, spot_same}
use Rattle.ft_base.proofs.Apart.{AreApart, all_append, all_of, entries_apart}
use Rattle.ft_replay.specs.Found.{saving_found}
use Rattle.ft_replay.specs.Merged.{Events}
use Rattle.ft_made.specs.MadeEvents.{made_at, spots_at, spots, made_list, made_events}
use Rattle.ft_made.proofs.Views.{only_both}

-- ---- keys in order, with what stands at each, if something does

module _ {K X : Type 0} (R : K → K → Ordering) (f : K → Option X) where
  -- a key with what stands there, if something does
  abbrev pub standing : K → Option (K × X)
  standing k = option_map (λ x. (k, x)) (f k)

  all_standing : (P : K → Type 0) (ks : List K) → AllByRecursion P ks → AllByRecursion P (keys_of (filter_map standing ks))
  all_standing P [] h = tt
  all_standing P (k ∷ ks) h = elim (f k) as (λ o. AllByRecursion P (keys_of (cons_option (option_map (λ x. (k, x)) o) (filter_map standing ks)))) [
    | None ↦ all_standing P ks h.1
    | Some x ↦ (h.0, all_standing P ks h.1)
  ]

  pub standing_sorted : (ks : List K) → IsStrictlySortedBy R ks → IsStrictlySortedBy R (keys_of (filter_map standing ks))
  unfolding IsStrictlySortedBy
  standing_sorted [] h = tt
  standing_sorted (k ∷ ks) h = elim (f k) as (λ o. IsStrictlySortedBy R (keys_of (cons_option (option_map (λ x. (k, x)) o) (filter_map standing ks)))) [
    | None ↦ standing_sorted ks h.1
    | Some x ↦ (all_standing (λ q. R k q ≡ Less) ks h.0, standing_sorted ks h.1)
  ]

  pub find-standing : IsAntisymmetric R → (ks : List K) (q : K) → find R q (filter_map standing ks) ≡ cond (list_any (eq_by_cmp R q) ks) (f q) None
  find-standing same [] q = refl
  find-standing same (k ∷ ks) q = by (eq_by_cmp R q k) refl (f k) refl (find-standing same ks q) where
    by : (own : Bool) → eq_by_cmp R q k ≡ own → (o : Option X) → f k ≡ o → find R q (filter_map standing ks) ≡ cond (list_any (eq_by_cmp R q) ks) (f q) None
        → find R q (cons_option (option_map (λ x. (k, x)) o) (filter_map standing ks)) ≡ cond (own || list_any (eq_by_cmp R q) ks) (f q) None
    by true tie None none rest =
        let here : f q ≡ None = ap f (same_from_tie same q k tie) ∙ none in
        rest ∙ ap (λ o. cond (list_any (eq_by_cmp R q) ks) o None) here ∙ cond_same {X = Option X} (list_any (eq_by_cmp R q) ks) None ∙ sym here
    by true tie (Some x) some rest = ap (λ b. cond b (Some x) (find R q (filter_map standing ks))) tie ∙ sym (ap f (same_from_tie same q k tie) ∙ some)
    by false other None none rest = rest
    by false other (Some x) some rest = ap (λ b. cond b (Some x) (find R q (filter_map standing ks))) other ∙ rest

-- behind the entry of a key there is no other of it
pub none_above : {K X : Type 0} (R : K → K → Ordering) (k : K) (es : List (K × X)) → AllByRecursion (λ q. R k q.0 ≡ Less) es → find R k es ≡ None
none_above R k [] above = refl
none_above R k (e ∷ es) above = ap (λ o. cond (is_eq o) (Some e.1) (find R k es)) above.0 ∙ none_above R k es above.1

pub none_behind : {K X : Type 0} (R : K → K → Ordering) (k : K) (e : K × X) (es : List (K × X)) → k ≡ e.0 → AllByRecursion (λ q. R e.0 q.0 ≡ Less) es → find R k es ≡ None
none_behind R k e es same above = none_above R k es (subst (λ q. AllByRecursion (λ p. R q p.0 ≡ Less) es) (sym same) above)

-- ---- lists one after the other

pub sorted_append : {K : Type 0} (R : K → K → Ordering) (xs ys : List K) → IsStrictlySortedBy R xs → IsStrictlySortedBy R ys → AllByRecursion (λ x. AllByRecursion (λ y. R x y ≡ Less) ys) xs → IsStrictlySortedBy R (xs ++ ys)
unfolding IsStrictlySortedBy
sorted_append R [] ys p q h = q
sorted_append R (x ∷ xs) ys p q h = (all_append (λ y. R x y ≡ Less) xs ys p.0 h.0, sorted_append R xs ys p.1 q h.1)

pub all_list_map : {A B : Type 0} (P : B → Type 0) (f : A → B) (xs : List A) → AllByRecursion (λ x. P (f x)) xs → AllByRecursion P (list_map f xs)
all_list_map P f [] h = tt
all_list_map P f (x ∷ xs) h = (h.0, all_list_map P f xs h.1)

pub all_flat_map : {A B : Type 0} (P : B → Type 0) (f : A → List B) (xs : List A) → AllByRecursion (λ x. AllByRecursion P (f x)) xs → AllByRecursion P (flat_map f xs)
all_flat_map P f [] h = tt
all_flat_map P f (x ∷ xs) h = all_append P (f x) (flat_map f xs) h.0 (all_flat_map P f xs h.1)

-- ---- the spots ascend

abbrev pub spot_at : Pos × Traced → ℕ × Hist → Spot
spot_at e t = record { pos = e.0; maker = t.0 }

place_sorted : (e : Pos × Traced) (ts : List (ℕ × Hist)) → AreApart nat_cmp ts → IsStrictlySortedBy spot_cmp (list_map (spot_at e) ts)
unfolding IsStrictlySortedBy
place_sorted e [] h = tt
place_sorted e (t ∷ ts) h = (
  all_list_map (λ s. spot_cmp (spot_at e t) s ≡ Less) (spot_at e) ts (all_map _ _ (λ u less. ap (λ o. ordering_then o (nat_cmp t.0 u.0)) (tied_itself pos_cmp_total e.0) ∙ less) ts h.0),
  place_sorted e ts h.1,
)

module _ (triggers : Triggers) where
  -- what holds for every trigger holds of each spot at an event
  each_spot : (P : Spot → Type 0) (e : Pos × Traced) → ((t : ℕ × Hist) → P (spot_at e t)) → AllByRecursion P (spots_at triggers e)
  each_spot P e h = all_list_map P (spot_at e) (map.entries triggers) (all_of _ h (map.entries triggers))

  all_sorted : (es : List (Pos × Traced)) → AreApart pos_cmp es → IsStrictlySortedBy spot_cmp (flat_map (spots_at triggers) es)
  unfolding IsStrictlySortedBy
  all_sorted [] h = tt
  all_sorted (e ∷ es) h = sorted_append spot_cmp (spots_at triggers e) (flat_map (spots_at triggers) es) (place_sorted e (map.entries triggers) (entries_apart nat_cmp triggers)) (all_sorted es h.1)
      (each_spot (λ s. AllByRecursion (λ y. spot_cmp s y ≡ Less) (flat_map (spots_at triggers) es)) e (λ t.
      all_flat_map (λ y. spot_cmp (spot_at e t) y ≡ Less) (spots_at triggers) es (all_map _ _ (λ q less. each_spot (λ y. spot_cmp (spot_at e t) y ≡ Less) q (λ u. ap (λ o. ordering_then o (nat_cmp t.0 u.0)) less)) es h.0)))

  spots_sorted : (events : Events) → IsStrictlySortedBy spot_cmp (spots triggers events)
  unfolding spots
  spots_sorted events = all_sorted (map.entries events) (entries_apart pos_cmp events)

-- ---- every attached trigger has a spot at every event, and there is no other

-- tests that are joined on either side
either_left : (a b c : Bool) → ((a && b) || (a && c)) ≡ (a && (b || c))
either_left true b c = refl
either_left false b c = refl

either_right : (a b c : Bool) → ((a && c) || (b && c)) ≡ ((a || b) && c)
either_right true b true = refl
either_right true b false = and_false b
either_right false b c = refl

module _ (triggers : Triggers) (q : Spot) where
  abbrev ties : Spot → Bool
  ties = eq_by_cmp spot_cmp q

  abbrev at_place : Pos → Bool
  at_place = eq_by_cmp pos_cmp q.pos

  abbrev of_maker : ℕ → Bool
  of_maker = eq_by_cmp nat_cmp q.maker

  in_place : (e : Pos × Traced) (ts : List (ℕ × Hist)) → list_any ties (list_map (spot_at e) ts) ≡ (at_place e.0 && list_any of_maker (keys_of ts))
  in_place e [] = sym (and_false (at_place e.0))
  in_place e (t ∷ ts) = (λ i. sym (tied_then (pos_cmp q.pos e.0) (nat_cmp q.maker t.0)) i || in_place e ts i) ∙ either_left (at_place e.0) (of_maker t.0) (list_any of_maker (keys_of ts))

  in_events : (es : List (Pos × Traced)) → list_any ties (flat_map (spots_at triggers) es) ≡ (list_any at_place (keys_of es) && list_any of_maker (map.keys triggers))
  in_events [] = refl
  in_events (e ∷ es) =
      list_any-append ties (spots_at triggers e) (flat_map (spots_at triggers) es)
      ∙ (λ i. in_place e (map.entries triggers) i || in_events es i)
      ∙ either_right (at_place e.0) (list_any at_place (keys_of es)) (list_any of_maker (map.keys triggers))

  has_spot : (events : Events) → list_any ties (spots triggers events) ≡ (map.contains_key events q.pos && map.contains_key triggers q.maker)
  unfolding spots
  has_spot events = in_events (map.entries events) ∙ (λ i. sym (contains_key-keys events q.pos) i && sym (contains_key-keys triggers q.maker) i)

-- ---- the made events, by spot

module _ (triggers : Triggers) (events : Events) where
  pub list-sorted : IsStrictlySortedBy spot_cmp (keys_of (made_list triggers events))
  unfolding made_list
  list-sorted = standing_sorted spot_cmp (made_at triggers events) (spots triggers events) (spots_sorted triggers events)

  pub entries-made : map.entries (made_events triggers events) ≡ made_list triggers events
  unfolding made_events
  entries-made = entries-from_entries spot_cmp_total (made_list triggers events) list-sorted

  pub get-made : (q : Spot) → map.get (made_events triggers events) q ≡ made_at triggers events q
  unfolding made_events made_list made_at
  get-made q =
      get-from_entries spot_cmp_total (made_list triggers events) q
      ∙ find-standing spot_cmp (made_at triggers events) spot_same (spots triggers events) q
      ∙ ap (λ b. cond b (made_at triggers events q) None) (has_spot triggers q events)
      ∙ only_both (λ event hist. option_and_then (made_of hist q.pos event) (saving_found triggers events q.maker q.pos)) (map.get events q.pos) (map.get triggers q.maker)
