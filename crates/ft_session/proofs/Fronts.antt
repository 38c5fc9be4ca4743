-- The first of some places, whose events are struck in another order.
use Rattle.std.proofs.Common.{rules, ◌≡◌, ◌<◌, ◌+◌, ℕ, Bool, true, false, cond, List, [], ◌∷◌, drop, length, Option, Some, None, Result, Ok, Err, refl, sym, ap, subst, ◌∙◌, arith}
use Rattle.std.specs.Prelude.{◌||◌, IsPermutation, IsSomeAnd, is_some, option_and_then}
use Rattle.std.specs.Borrow.{Bor}
use Rattle.std.specs.List.{AllByRecursion, IsDistinct}
use Rattle.std.specs.List.Sorted.{IsStrictlySortedBy}
use Rattle.std.specs.Option.{option_copied, option_map_or}
use Rattle.std.specs.Cmp.{eq_by_cmp_equiv}
use Rattle.std.specs.FinMap as map
use Rattle.std.specs.FinMap.{FinMap, contains_key-keys, entries_sorted, get-insert, get-empty, len-empty, len-entries, len-insert}
use Rattle.std.specs.Map.{keys_of}
use Rattle.std.proofs.lemmas.Bool.{true≢false}
use Rattle.std.proofs.lemmas.List.{length-map}
use Rattle.std.proofs.lemmas.List.Elements.{All-from_recursion, recursion_from_All}
use Rattle.std.proofs.lemmas.List.Sorted.{All-permutation, length_permutation, list_any-IsPermutation}
use Rattle.std.proofs.lemmas.Map.Keys.{IsDistinct-from_sorted, IsDistinct-head, IsDistinct-IsPermutation, IsDistinct-tail}
use Rattle.ft_fields.specs.Traced.{Traced}
use Rattle.ft_fields.specs.Places.{pos_cmp, pos_cmp_total, pos_same}
use Rattle.ft_fields.specs.declared.pos.Pos.{Pos}
use Rattle.ft_maps.specs.Entries.{same_from_tie, strictly_sorted}
use Rattle.ft_base.proofs.Apart.{entries_found}
use Rattle.ft_base.specs.Base.{Base}
use Rattle.ft_base.specs.declared.refused.Place.{Place}
use Rattle.ft_base.specs.declared.refused.Refused.{Refused}
use Rattle.ft_base.specs.declared.refused.Refused.TheVariants.{NoLane, NoEvent}
use Rattle.ft_answers.specs.After.{after_strike}
use Rattle.ft_answers.specs.Held.{Lane, event_at}
use Rattle.ft_desk_core.specs.Found.{event_found}
use Rattle.ft_layout.specs.declared.places.PlaceLayout.{PlaceLayout}
use Rattle.ft_session.specs.Strikes.{after_strikes}
use Rattle.ft_session.specs.inner.Fronts.{has_place, IsHeldIn, IsPosOf, IsWithout, IsFront, after_others, BeginsWith, ComeFirst}
use Rattle.ft_session.proofs.Striking.{strikes_more, strikes_none}
use Rattle.ft_session.proofs.Without.{done_or, same_pos, strike_held, struck, still_there, without_more, without_none}

-- ---- the events of a list are struck, one after the other

-- some of them are left
pub record IsStriking (base : Base) (front rest : List Pos) (now : Base) : Type 0 where
  pub gone : Pos → Bool
  pub without : IsWithout gone base now
  pub left : AllByRecursion (λ pos. gone pos ≡ false) rest
  pub all : (q : Pos) → has_place front q ≡ (gone q || has_place rest q)
  pub held : AllByRecursion (IsHeldIn base) rest
  pub apart : IsDistinct same_pos rest

-- at first all are
pub striking_all : (base : Base) (front : List Pos) → AllByRecursion (IsHeldIn base) front → IsDistinct same_pos front → IsStriking base front front base
striking_all base front held apart = record { gone = λ _. false; without = without_none base; left = none front; all = λ q. refl; held = held; apart = apart }
  where
    none : (es : List Pos) → AllByRecursion (λ pos. ◌≡◌ {A = Bool} false false) es
    none [] = tt
    none (e ∷ es) = (refl, none es)

-- the event that is held at a place
held_there : (o : Option Traced) (stamp : ℕ) → IsSomeAnd o (λ event. event.stamp ≡ stamp) → (event : Traced) × ((o ≡ Some event) × (event.stamp ≡ stamp))
held_there None stamp is = absurd is
held_there (Some event) stamp is = (event, (refl, is))

module _ {base : Base} {front : List Pos} {pos : Pos} {rest : List Pos} {now : Base} (is : IsStriking base front (pos ∷ rest) now) where
  abbrev its : (event : Traced) × ((event_at base.lanes pos.cpu pos.line ≡ Some event) × (event.stamp ≡ pos.stamp))
  its = held_there (event_at base.lanes pos.cpu pos.line) pos.stamp is.held.0

  -- the next one can be struck
  pub strikes_next : after_strike now pos.cpu pos.line ≡ Ok (struck now pos, record { cpu = pos.cpu; line = pos.line })
  strikes_next = strike_held now pos.cpu pos.line its.0 (still_there is.without pos its.0 its.1.0 its.1.1 is.left.0)

  -- and then the others are left
  pub striking_fewer : IsStriking base front rest (struck now pos)
  striking_fewer = record {
    gone = λ q. same_pos q pos || is.gone q;
    without = without_more is.without pos its.0 its.1.0 its.1.1 is.left.0 (λ q. same_pos q pos || is.gone q) (λ q. refl);
    left = others rest (IsDistinct-head same_pos pos rest is.apart) is.left.1;
    all = λ q. is.all q ∙ turned (is.gone q) (same_pos q pos) (has_place rest q);
    held = is.held.1;
    apart = IsDistinct-tail same_pos pos rest is.apart;
  }
    where
      others : (es : List Pos) → AllByRecursion (λ q. same_pos pos q ≡ false) es → AllByRecursion (λ q. is.gone q ≡ false) es → AllByRecursion (λ q. (same_pos q pos || is.gone q) ≡ false) es
      others [] apart left = tt
      others (q ∷ es) apart left = (
        ap (λ t. t || is.gone q) ((eq_by_cmp_equiv pos_cmp_total).symm q pos ∙ apart.0) ∙ left.0,
        others es apart.1 left.1,
      )

      turned : (a b c : Bool) → (a || (b || c)) ≡ ((b || a) || c)
      turned true true c = refl
      turned true false c = refl
      turned false true c = refl
      turned false false c = refl

-- a place, in case one is asked for
abbrev pub no_pos : Pos
no_pos = record { stamp = 0; cpu = 0; line = 0 }

-- the first of those that are left
pub next_of : {base : Base} {front es rest : List Pos} {pos : Pos} {now : Base} → es ≡ pos ∷ rest → IsStriking base front es now → IsStriking base front (pos ∷ rest) now
next_of {base} {front} {now = now} more = subst (λ (es : List Pos). IsStriking base front es now) more

-- what an accepted strike of it gives
pub struck_is : {base : Base} {front rest : List Pos} {pos : Pos} {now new : Base} {place : Place} → IsStriking base front (pos ∷ rest) now → after_strike now pos.cpu pos.line ≡ Ok (new, place) → IsStriking base front rest new
struck_is {base} {front} {rest} {pos} {now} {new} {place} is gives =
    subst (λ (d : Base × Place). IsStriking base front rest d.0) (ap (done_or (new, place)) (sym (strikes_next is) ∙ gives)) (striking_fewer is)

-- it is not refused
pub never_refused : {base : Base} {front rest : List Pos} {pos : Pos} {now : Base} → IsStriking base front (pos ∷ rest) now → (why : Refused) → after_strike now pos.cpu pos.line ≡ Err why → ⊥
never_refused {pos = pos} {now = now} is why due = by (sym (strikes_next is) ∙ due)
  where
    went : Result (Base × Place) Refused → Bool
    went (Ok done) = true
    went (Err refused) = false

    by : ◌≡◌ {A = Result (Base × Place) Refused} (Ok (struck now pos, record { cpu = pos.cpu; line = pos.line })) (Err why) → ⊥
    by same = true≢false (ap went same)

-- at last none is
pub striking_none : {base : Base} {front rest : List Pos} {now : Base} → rest ≡ [] → IsStriking base front rest now → IsWithout (has_place front) base now
striking_none {base} {front} {now = now} none is =
    let last : IsStriking base front [] now = subst (λ (es : List Pos). IsStriking base front es now) none is in
    subst (λ (gone : Pos → Bool). IsWithout gone base now) (λ i q. sym (last.all q ∙ or_false (last.gone q)) i) last.without
  where
    or_false : (b : Bool) → (b || false) ≡ b
    or_false true = refl
    or_false false = refl

-- ---- the first ones of some places

abbrev HeldPlaces : Type 0
HeldPlaces = FinMap pos_cmp (Unit {0})

-- none yet
pub first_none : (base : Base) (places : List PlaceLayout) (held : HeldPlaces) → held ≡ map.empty → ComeFirst base places held
first_none base places held empty = subst (ComeFirst base places) (sym empty) (record {
  each = λ pos is. absurd (true≢false (sym is ∙ ap is_some (get-empty pos_cmp pos)));
  begins = subst (λ (both : ℕ × (Pos → Bool)). BeginsWith base places both.0 both.1) (λ i. (sym (len-empty pos_cmp (Unit {0})) i, λ q. sym (ap (is_some {T = Unit {0}}) (get-empty pos_cmp q)) i))
      (record { few = omega arith; rest = base; without = without_none base; gives = strikes_none base places });
})

-- what is found at a place
found_there : (base : Base) (cpu line : ℕ) (event : Traced) → Ok event ≡ event_found base cpu line → event_at base.lanes cpu line ≡ Some event
unfolding event_found
found_there base cpu line event is = by (map.get base.lanes cpu) is
  where
    at : (o : Option Traced) → ◌≡◌ {A = Result Traced Refused} (Ok event) (option_map_or (λ e. Ok e) o (Err NoEvent)) → o ≡ Some event
    at None is = search (is, rules)
    at (Some e) is = search (is, rules)

    by : (lane : Option Lane) → ◌≡◌ {A = Result Traced Refused} (Ok event) (option_map_or (λ l. option_map_or (λ e. Ok e) (map.get l.events line) (Err NoEvent)) lane (Err (NoLane cpu))) → option_and_then (λ l. map.get l.events line) lane ≡ Some event
    by None is = search (is, rules)
    by (Some lane) is = at (map.get lane.events line) is

-- its place in merged order
pub pos_found : (base : Base) (place : PlaceLayout) (cpu : ℕ) (event : Traced) → cpu ≡ place.cpu → Ok event ≡ event_found base place.cpu place.line → IsPosOf base place (record { stamp = event.stamp; cpu = cpu; line = place.line })
pos_found base place cpu event same is = (
  same,
  refl,
  subst (λ (o : Option Traced). IsSomeAnd o (λ e. e.stamp ≡ event.stamp)) (sym (ap (λ (c : ℕ). event_at base.lanes c place.line) same ∙ found_there base place.cpu place.line event is)) refl,
)

-- a reference is there if what it refers to is
pub some_copied : {T : Type 0} (o : Option (Bor T)) → is_some o ≡ is_some (option_copied o)
some_copied None = refl
some_copied (Some x) = refl

-- a set has a place that was put in, and what it had
has_more : (held : HeldPlaces) (pos q : Pos) → map.contains_key (map.insert held pos tt) q ≡ (same_pos q pos || map.contains_key held q)
has_more held pos q = ap is_some (get-insert pos_cmp_total held pos tt q) ∙ by (same_pos q pos)
  where
    by : (b : Bool) → is_some (cond b (Some tt) (map.get held q)) ≡ (b || map.contains_key held q)
    by true = refl
    by false = refl

module _ {base : Base} {places : List PlaceLayout} {held : HeldPlaces} (first : ComeFirst base places held) (i : ℕ) (count : map.len held ≡ i) (within : i < length places)
    (place : PlaceLayout) (more : drop i places ≡ place ∷ drop (i + 1) places) (pos : Pos) (its : IsPosOf base place pos) (new : is_some (map.get held pos) ≡ false) where
  -- with the next one there is one more
  pub len_more : map.len (map.insert held pos tt) ≡ i + 1
  len_more = len-insert pos_cmp_total held pos tt ∙ ap (λ b. cond b (map.len held) (map.len held + 1)) new ∙ ap (λ (n : ℕ). n + 1) count

  each_more : (q : Pos) → map.contains_key (map.insert held pos tt) q ≡ true → IsHeldIn base q
  each_more q is = by (same_pos q pos) refl (sym (has_more held pos q) ∙ is)
    where
      by : (b : Bool) → same_pos q pos ≡ b → (b || map.contains_key held q) ≡ true → IsHeldIn base q
      by true tie _ = subst (IsHeldIn base) (sym (same_from_tie pos_same q pos tie)) its.2
      by false _ there = first.each q there

  -- and they are the first ones
  pub first_more : ComeFirst base places (map.insert held pos tt)
  first_more =
      let event = held_there (event_at base.lanes pos.cpu pos.line) pos.stamp its.2 in
      let rest : Base = first.begins.rest in
      let strike : after_strike rest place.cpu place.line ≡ Ok (struck rest pos, record { cpu = pos.cpu; line = pos.line }) =
      subst (λ (at : ℕ × ℕ). after_strike rest at.0 at.1 ≡ Ok (struck rest pos, record { cpu = pos.cpu; line = pos.line })) (λ k. (its.0 k, its.1 k))
      (strike_held rest pos.cpu pos.line event.0 (still_there first.begins.without pos event.0 event.1.0 event.1.1 new)) in
      let gives : after_strikes base places ≡ after_others i (after_strikes rest (drop i places)) =
      subst (λ (n : ℕ). after_strikes base places ≡ after_others n (after_strikes rest (drop n places))) count first.begins.gives in
      record {
        each = each_more;
        begins = record {
          few = omega (arith, len_more, within);
          rest = struck rest pos;
          without = without_more first.begins.without pos event.0 event.1.0 event.1.1 new (map.contains_key (map.insert held pos tt)) (has_more held pos);
          gives = subst (λ (n : ℕ). after_strikes base places ≡ after_others n (after_strikes (struck rest pos) (drop n places))) (sym len_more)
              (strikes_more (after_strikes base places) i rest place (drop (i + 1) places) (drop i places) more gives (struck rest pos) (record { cpu = pos.cpu; line = pos.line }) strike);
        };
      }

-- ---- the same as a list

-- what is held at each place of a set is held at each of a list of them
all_held : (base : Base) (held : HeldPlaces) → ((pos : Pos) → map.contains_key held pos ≡ true → IsHeldIn base pos) → (es : List (Pos × Unit {0})) → AllByRecursion (λ e. map.get held e.0 ≡ Some e.1) es → AllByRecursion (IsHeldIn base) (keys_of es)
all_held base held each [] there = tt
all_held base held each (e ∷ es) there = (each e.0 (ap is_some there.0), all_held base held each es there.1)

pub front_listed : (base : Base) (places : List PlaceLayout) (held : HeldPlaces) → ComeFirst base places held → (front : List Pos) → IsPermutation (map.keys held) front → IsFront base places front
front_listed base places held first front moved = record {
  held = recursion_from_All _ front (All-permutation (IsHeldIn base) (map.keys held) front moved (All-from_recursion _ (map.keys held) (all_held base held first.each (map.entries held) (entries_found pos_cmp pos_cmp_total held))));
  apart = IsDistinct-IsPermutation same_pos (eq_by_cmp_equiv pos_cmp_total).symm (map.keys held) front moved (IsDistinct-from_sorted pos_cmp (map.keys held) (strictly_sorted pos_cmp (map.entries held) (entries_sorted held)));
  begins = subst (λ (both : ℕ × (Pos → Bool)). BeginsWith base places both.0 both.1) (λ i. (count i, λ q. has q i)) first.begins;
}
  where
    count : map.len held ≡ length front
    count = len-entries held ∙ sym (length_permutation (map.keys held) front moved ∙ length-map (map.entries held) (λ e. e.0))

    has : (q : Pos) → map.contains_key held q ≡ has_place front q
    has q = contains_key-keys held q ∙ list_any-IsPermutation (same_pos q) (map.keys held) front moved

-- in order
pub in_order : (held : HeldPlaces) → IsStrictlySortedBy pos_cmp (map.keys held)
in_order held = strictly_sorted pos_cmp (map.entries held) (entries_sorted held)
