-- Which keys are in a table, by the rank of their first hits.
use Rattle.std.proofs.Common.{◌≡◌, ℕ, zero, suc, ◌<◌, true, false, cond, List, [], ◌∷◌, length, get_or, take, map as list_map, refl, sym, ap, subst, ◌∙◌, arith, nat_lt, Some, None, Option}
use Rattle.std.specs.Prelude.{is_some}
use Rattle.std.specs.List.{filter, list_any}
use Rattle.std.specs.Option.{option_map_or}
use Rattle.std.specs.declared.cmp.Ordering.{Ordering}
use Rattle.std.specs.declared.cmp.Ordering.TheVariants.{Less, Equal, Greater}
use Rattle.std.specs.Ordering.{is_lt, eq_by_cmp, ordering_reverse}
use Rattle.std.specs.Cmp.{IsTotalOrder, eq_by_cmp_equiv}
use Rattle.std.specs.FinMap as map
use Rattle.std.proofs.lemmas.Bool.{ltb-true}
use Rattle.std.proofs.lemmas.Bool.Decides.{nat_tests}
use Rattle.ft_hits.specs.declared.spot.Spot.{Spot}
use Rattle.ft_hits.specs.Spots.{spot_cmp, spot_cmp_total, spot_same}
use Rattle.ft_fields.specs.declared.key.Part.{Part}
use Rattle.ft_fields.specs.Parts.{same_key}
use Rattle.ft_hits.specs.declared.mark.Mark.{Mark}
use Rattle.ft_hits.specs.Marks.{mark_cmp, mark_cmp_total}
use Rattle.ft_table.specs.inner.Ascending.{IsRank}
use Rattle.ft_hits.specs.Hits.{Hits, first_place}
use Rattle.ft_table.specs.Tabled.{Tabled, is_first, first_hits, order_of, is_in}
use Rattle.ft_table.specs.inner.Moves.{others, order_with}
use Rattle.ft_table.specs.Admission.{IsFirstHit, FirstsAreFirst, earlier_firsts, IsAmongFirst, InByRank}
use Rattle.ft_hits.proofs.Flat.{mark}
use Rattle.ft_table.proofs.Firsts.{get-first_hits, no_first, first_is_hit, order-none, order-some}
use Rattle.ft_table.proofs.Members.{in-without, in-with}
use Rattle.ft_table.proofs.OneKeys.{first_least}
use Rattle.ft_table.proofs.Sorted.{next_rank, rank-keys}
use Rattle.ft_table.proofs.Tallies.{how_many, len-kept, first-listed, not_none}

some_is : {X : Type 0} (o : Option X) → is_some o ≡ true → (x : X) × (o ≡ Some x)
some_is None is = cc
some_is (Some x) is = (x, refl)

-- ---- first hits

-- no hit stands before its key's first
least_of : (hits : Hits) (m : Mark) → first_place hits m.key ≡ Some m.spot → (p : Spot) → is_some (map.get hits (mark p m.key)) ≡ true → spot_cmp p m.spot ≡ Less → ⊥
least_of hits m is p some = let at = some_is (map.get hits (mark p m.key)) some in first_least hits m.key m.spot p at.0 is at.1

is_first_hit : (hits : Hits) (m : Mark) → first_place hits m.key ≡ Some m.spot → IsFirstHit hits m
is_first_hit hits m is =
    let at = first_is_hit hits m.key m.spot is in
    record { hit = ap is_some at.1; least = least_of hits m is }

-- and what none stands before is the first
first_from : (hits : Hits) (m : Mark) → IsFirstHit hits m → first_place hits m.key ≡ Some m.spot
first_from hits m first = by (first_place hits m.key) refl where
  by : (o : Option Spot) → first_place hits m.key ≡ o → o ≡ Some m.spot
  by None none = absurd (not_none (map.get hits m) first.hit (no_first hits m.key none m.spot))
  by (Some f) is =
      let at = first_is_hit hits m.key f is in
      let before : spot_cmp f m.spot ≡ Less → ⊥ = first.least f (ap is_some at.1) in
      let v = some_is (map.get hits m) first.hit in
      let after : spot_cmp m.spot f ≡ Less → ⊥ = first_least hits m.key f m.spot v.0 is v.1 in
      ap (λ (p : Spot). Some p) (spot_same f m.spot (tie f (spot_cmp f m.spot) refl before after)) where
        tie : (f : Spot) (o : Ordering) → spot_cmp f m.spot ≡ o → (spot_cmp f m.spot ≡ Less → ⊥) → (spot_cmp m.spot f ≡ Less → ⊥) → spot_cmp f m.spot ≡ Equal
        tie f Less e before after = absurd (before e)
        tie f Equal e before after = e
        tie f Greater e before after = absurd (after (spot_cmp_total.antisymm m.spot f ∙ ap ordering_reverse e))

is_listed : (hits : Hits) (m : Mark) → first_place hits m.key ≡ Some m.spot → is_some (map.get (first_hits hits) m) ≡ true
is_listed hits m is =
    let at = first_is_hit hits m.key m.spot is in
    let first : is_first hits m ≡ true = ap (λ o. option_map_or (eq_by_cmp spot_cmp m.spot) o false) is ∙ (eq_by_cmp_equiv spot_cmp_total).refl m.spot in
    ap is_some (get-first_hits hits m ∙ ap (λ b. cond b (map.get hits m) None) first ∙ at.1)

pub firsts_are_first : FirstsAreFirst
firsts_are_first hits m = (λ some. is_first_hit hits m (first-listed hits m some), λ first. is_listed hits m (first_from hits m first))

-- ---- ranks

module _ {K : Type 0} (R : K → K → Ordering) where
  none_below : (ks : List K) (k : K) → ((j : ℕ) (d : K) → j < length ks → R (get_or ks j d) k ≡ Less → ⊥) → how_many (λ q. is_lt (R q k)) ks ≡ 0
  none_below [] k h = refl
  none_below (x ∷ xs) k h = at (R x k) refl (none_below xs k (λ j d lt. h (suc j) d (omega arith))) where
    at : (o : Ordering) → R x k ≡ o → how_many (λ q. is_lt (R q k)) xs ≡ 0 → length (cond (is_lt o) (x ∷ filter (λ q. is_lt (R q k)) xs) (filter (λ q. is_lt (R q k)) xs)) ≡ 0
    at Less e rest = absurd (h zero x (omega arith) e)
    at Equal e rest = rest
    at Greater e rest = rest

module _ {K : Type 0} {R : K → K → Ordering} (total : IsTotalOrder R) where
  -- a rank is the number of items below
  below-rank : (ks : List K) (k : K) (i : ℕ) → IsRank R ks k i → how_many (λ q. is_lt (R q k)) ks ≡ i
  below-rank ks k zero at = none_below R ks k (λ j d lt. at.above j d (omega arith) lt)
  below-rank [] k (suc i) at = absurd (let w = at.within in omega arith)
  below-rank (x ∷ xs) k (suc i) at =
      ap (λ o. length (cond (is_lt o) (x ∷ filter (λ q. is_lt (R q k)) xs) (filter (λ q. is_lt (R q k)) xs))) (at.below zero k (omega arith))
      ∙ ap suc (below-rank xs k i (next_rank total x xs k i at))

-- a key with hits is in exactly if fewer first hits than the size stand before its own
in-rank : (table : Tabled) (key : List Part) (f : Spot) → first_place table.hits key ≡ Some f → is_in table key ≡ nat_lt (map.len (earlier_firsts table.hits (mark f key))) table.size
in-rank table key f is =
    let hits : Hits = table.hits in
    let m : Mark = mark f key in
    let at = rank-keys mark_cmp_total (map.insert (others hits key) m []) m in
    let order : order_of hits ≡ order_with hits m = order-some hits key f is in
    let rank : map.len (earlier_firsts hits m) ≡ at.0 =
    len-kept (first_hits hits) (λ first. is_lt (mark_cmp first m))
    ∙ below-rank mark_cmp_total (order_of hits) m at.0 (subst (λ ms. IsRank mark_cmp ms m at.0) (sym order) at.1) in
    ap (λ (ms : List Mark). list_any (same_key key) (list_map (λ m. m.key) (take table.size ms))) order
    ∙ in-with hits table.size m at.0 at.1 ∙ ap (λ n. nat_lt n table.size) (sym rank)

-- and one without hits isn't
in-none : (table : Tabled) (key : List Part) → first_place table.hits key ≡ None → is_in table key ≡ false
in-none table key none =
    ap (λ (ms : List Mark). list_any (same_key key) (list_map (λ m. m.key) (take table.size ms))) (order-none table.hits key none)
    ∙ in-without table.hits table.size key

among : (table : Tabled) (key : List Part) → is_in table key ≡ true → IsAmongFirst table key
among table key inside = by (first_place table.hits key) refl where
  by : (o : Option Spot) → first_place table.hits key ≡ o → IsAmongFirst table key
  by None none = absurd (let both : true ≡ false = sym inside ∙ in-none table key none in cc)
  by (Some f) is = record {
    spot = f;
    first = is_first_hit table.hits (mark f key) is;
    few = ltb-true _ _ (sym (in-rank table key f is) ∙ inside);
  }

inside : (table : Tabled) (key : List Part) → IsAmongFirst table key → is_in table key ≡ true
inside table key first =
    let is : first_place table.hits key ≡ Some first.spot = first_from table.hits (mark first.spot key) first.first in
    let lt = first.few in
    in-rank table key first.spot is ∙ grind (arith, nat_tests, lt)

pub in_by_rank : InByRank
in_by_rank table key = (among table key, inside table key)
