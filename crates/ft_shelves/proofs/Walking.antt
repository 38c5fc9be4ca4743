-- The hits of a key, from one to the next, and the saves that are put at them in turn.
use Rattle.std.proofs.Common.{◌≡◌, ◌<◌, ◌≤◌, ℕ, suc, ℤ, Bool, true, false, cond, List, [], ◌∷◌, length, refl, sym, ap, subst, ◌∙◌, arith, Some, None, Option, eqb-true}
use Rattle.std.specs.Prelude.{◌==◌, ◌&&◌, ◌||◌, is_some, not, option_map, if◌then◌else◌}
use Rattle.std.specs.List.{filter, AllByRecursion}
use Rattle.std.specs.List.Sorted.{IsStrictlySortedBy}
use Rattle.std.specs.Map.{keys_of}
use Rattle.std.specs.Option.{option_map_or}
use Rattle.std.specs.declared.cmp.Ordering.{Ordering}
use Rattle.std.specs.declared.cmp.Ordering.TheVariants.{Less}
use Rattle.std.specs.Ordering.{nat_cmp, eq_by_cmp, is_lt}
use Rattle.std.specs.Cmp.{IsTotalOrder, eq_by_cmp_equiv, tied_then}
use Rattle.std.specs.FinMap as map
use Rattle.std.specs.FinMap.{IsAntisymmetric, find, entries_sorted, get-entries}
use Rattle.std.proofs.lemmas.Bool.Decides.{nat_tests}
use Rattle.std.proofs.lemmas.Option.{same_Some}
use Rattle.std.proofs.lemmas.Map.Keys.{sorted_head, sorted_tail}
use Rattle.ft_fields.specs.declared.pos.Pos.{Pos}
use Rattle.ft_fields.specs.declared.key.Part.{Part}
use Rattle.ft_fields.specs.Parts.{same_key}
use Rattle.ft_fields.specs.Places.{pos_cmp, pos_same}
use Rattle.ft_maps.specs.Entries.{same_from_tie, strictly_sorted}
use Rattle.ft_maps.proofs.Common.{cond_same, is_less, not_below}
use Rattle.ft_pairs.specs.ByKey.{OpsByKey, ChangesKey, ops_of}
use Rattle.ft_pairs.specs.Source.{Ops}
use Rattle.ft_pairs.specs.declared.at.At.{At}
use Rattle.ft_pairs.specs.declared.at.Op.TheVariants.{Save}
use Rattle.ft_hits.specs.Hits.{Hits, hits_of, hits_after, hit_after, is_after, first_entry}
use Rattle.ft_hits.specs.Spots.{traced, spot_cmp, spot_cmp_total, spot_same}
use Rattle.ft_hits.specs.declared.spot.Spot.{Spot}
use Rattle.ft_hits.specs.declared.hit.Hit.{Hit}
use Rattle.ft_hits.proofs.Flat.{mark, get-hits_of}
use Rattle.ft_shelves.specs.inner.Following.{with_save}

-- ---- entries in order

abbrev next_of : {K X : Type 0} → (K → Bool) → List (K × X) → Option (K × X)
next_of test es = first_entry (filter (λ e. test e.0) es)

-- fewer pass a narrower test
no_more : {X : Type 0} (p q : X → Bool) → ((x : X) → p x ≡ true → q x ≡ true) → (xs : List X) → length (filter p xs) ≤ length (filter q xs)
no_more p q under [] = omega arith
no_more p q under (x ∷ xs) = grind (arith, no_more p q under xs, under x)

module _ {K : Type 0} {R : K → K → Ordering} (total : IsTotalOrder R) where
  not_behind : (a b : K) → not (is_lt (R a b)) ≡ (is_lt (R b a) || eq_by_cmp R b a)
  not_behind a b = grind (arith, total.antisymm)

module _ {K X : Type 0} {R : K → K → Ordering} (total : IsTotalOrder R) (same : IsAntisymmetric R) where
  -- whether a key is before that of the next entry, if there is one
  abbrev is_passed : Option (K × X) → K → Bool
  is_passed None k = true
  is_passed (Some e) k = is_lt (R k e.0)

  found_above : (x k : K) (es : List (K × X)) → AllByRecursion (λ q. R x q ≡ Less) (keys_of es) → is_some (find R k es) ≡ true → R x k ≡ Less
  found_above x k [] above found = absurd (cc found)
  found_above x k (e ∷ es) above found = grind (arith, found_above x k es, above.0, above.1, same k e.0)

  -- the next entry is there, and passes
  next_found : (test : K → Bool) (es : List (K × X)) (e : K × X) → next_of test es ≡ Some e → (find R e.0 es ≡ Some e.1) × (test e.0 ≡ true)
  next_found test [] e is = absurd (cc is)
  next_found test (x ∷ es) e is = grind (arith, next_found test es e, total.antisymm, same)

  -- by a test that later keys pass too, the entries before the next one are those that don't pass
  passed : (test : K → Bool) → ((p q : K) → test p ≡ true → R p q ≡ Less → test q ≡ true) → (es : List (K × X)) → IsStrictlySortedBy R (keys_of es) → (k : K) → is_some (find R k es) ≡ true
      → is_passed (next_of test es) k ≡ not (test k)
  passed test later [] sorted k there = absurd (cc there)
  passed test later (x ∷ es) sorted k there =
      let rest = passed test later es (sorted_tail R x.0 (keys_of es) sorted) k in
      let above = λ (q : K). found_above x.0 q es (sorted_head R x.0 (keys_of es) sorted) in
      grind (arith, rest, above, next_found test es, later x.0 k, same k x.0, total.antisymm)

  -- fewer pass a narrower test, which an entry doesn't pass that passes the wider one
  fewer : (p q : K → Bool) → ((k : K) → p k ≡ true → q k ≡ true) → (n : K) → p n ≡ false → q n ≡ true → (es : List (K × X)) → is_some (find R n es) ≡ true
      → length (filter (λ (e : K × X). p e.0) es) < length (filter (λ (e : K × X). q e.0) es)
  fewer p q under n out inside [] found = absurd (cc found)
  fewer p q under n out inside (e ∷ es) found = grind (arith, fewer p q under n out inside es, no_more (λ (e : K × X). p e.0) (λ e. q e.0) (λ x. under x.0) es, under e.0, same n e.0)

-- ---- hits

abbrev Entry : Type 0
Entry = Spot × List ℤ

after_more : (after : Option Spot) (p q : Spot) → is_after after p ≡ true → spot_cmp p q ≡ Less → is_after after q ≡ true
after_more None p q behind less = refl
after_more (Some a) p q behind less = ap is_lt (spot_cmp_total.trans a p q (is_less _ behind) less)

-- whether a spot is before the next hit, if there is one
abbrev pub is_till : Option Hit → Spot → Bool
is_till None s = true
is_till (Some hit) s = is_lt (spot_cmp s hit.spot)

-- how many hits of a key are left, with the next one
abbrev pub hits_left : Hits → List Part → Option Hit → ℕ
hits_left hits key next = option_map_or (λ hit. suc (length (hits_after (Some hit.spot) (hits_of hits key)))) next 0

module _ (hits : Hits) (key : List Part) where
  abbrev es : List Entry
  es = map.entries (hits_of hits key)

  abbrev as_hit : Entry → Hit
  as_hit e = record { spot = e.0; key = key; values = e.1 }

  at : (s : Spot) → find spot_cmp s es ≡ map.get hits (mark s key)
  at s = sym (get-entries (hits_of hits key) s) ∙ get-hits_of hits s key

  -- the next hit stands there, after the spot
  pub next_there : (after : Option Spot) (hit : Hit) → hit_after hits key after ≡ Some hit → (map.get hits (mark hit.spot key) ≡ Some hit.values) × (is_after after hit.spot ≡ true)
  next_there after hit is = by (next_of (is_after after) es) refl is
    where
      by : (o : Option Entry) → next_of (is_after after) es ≡ o → option_map as_hit o ≡ Some hit → (map.get hits (mark hit.spot key) ≡ Some hit.values) × (is_after after hit.spot ≡ true)
      by None next is = absurd (cc is)
      by (Some e) next is =
          let found = next_found spot_cmp_total spot_same (is_after after) es e next in
          subst (λ (h : Hit). (map.get hits (mark h.spot key) ≡ Some h.values) × (is_after after h.spot ≡ true)) (same_Some (as_hit e) hit is) (sym (at e.0) ∙ found.0, found.1)

  -- the hits before the next one are those that aren't after the spot
  pub till_next : (after : Option Spot) (s : Spot) → is_some (map.get hits (mark s key)) ≡ true → is_till (hit_after hits key after) s ≡ not (is_after after s)
  till_next after s there = by (next_of (is_after after) es) ∙ passed spot_cmp_total spot_same (is_after after) (after_more after) es (strictly_sorted spot_cmp es (entries_sorted (hits_of hits key))) s (ap is_some (at s) ∙ there)
    where
      by : (o : Option Entry) → is_till (option_map as_hit o) s ≡ is_passed spot_cmp_total spot_same o s
      by None = refl
      by (Some e) = refl

  -- after a hit fewer are left
  pub fewer_left : (hit : Hit) (next : Option Hit) → hit_after hits key (Some hit.spot) ≡ next → hits_left hits key next < hits_left hits key (Some hit)
  fewer_left hit None is = omega arith
  fewer_left hit (Some next) is =
      let there = next_there (Some hit.spot) next is in
      let few = fewer spot_cmp_total spot_same (is_after (Some next.spot)) (is_after (Some hit.spot)) (λ s more. after_more (Some hit.spot) next.spot s there.1 (is_less _ more))
      next.spot (not_below (spot_cmp next.spot next.spot) ((eq_by_cmp_equiv spot_cmp_total).refl next.spot)) there.1 es (ap is_some (at next.spot ∙ there.0)) in
      omega (arith, few)

-- ---- saves

zero_ties : (n : ℕ) → eq_by_cmp nat_cmp 0 n ≡ (n == 0)
zero_ties n = grind (arith, nat_tests)

none_put : {X : Type 0} (same till trigger here : Bool) (save op : X) → (here ≡ true → till ≡ false) → op ≡ cond same (cond (till && (trigger && here)) save op) op
none_put same till trigger here save op none = grind (arith, none)

-- what stands at a place, as the walk passes a hit and puts its save there, if it is of an event of the trace
put_one : {X : Type 0} (same own pos trigger here before next : Bool) (save op : X) → (here ≡ true → next ≡ (before || (pos && own))) → (own ≡ true → pos ≡ true → here ≡ true)
    → (mid new : X) → new ≡ cond same (cond (own && (pos && trigger)) save mid) mid → mid ≡ cond same (cond (before && (trigger && here)) save op) op
    → new ≡ cond same (cond (next && (trigger && here)) save op) op
put_one same own pos trigger here before next save op passes stands mid new put was = grind (arith, passes, stands, put, was)

module _ (hits : Hits) (id : ℕ) (key : List Part) where
  -- whether the trigger has a hit of the key at a place
  abbrev pub saves_here : At → Bool
  saves_here q = eq_by_cmp nat_cmp q.trigger id && is_some (map.get hits (record { spot = traced q.pos; key = key }))

  -- the operations on the key's variable with a save at each hit before the next one
  abbrev pub with_saves_till : Option Hit → Ops → Ops
  with_saves_till next ops q = if is_till next (traced q.pos) && saves_here q then Some Save else ops q

  -- before the first hit none is put
  pub begun : (ops : OpsByKey) (next : Option Hit) → hit_after hits key None ≡ next → ChangesKey key (with_saves_till next) ops ops
  begun ops next is k q = none_put (same_key k key) (is_till next (traced q.pos)) (eq_by_cmp nat_cmp q.trigger id) (is_some (map.get hits (mark (traced q.pos) key))) (Some Save) (ops_of ops k q)
      (λ there. ap (λ n. is_till n (traced q.pos)) (sym is) ∙ till_next hits key None (traced q.pos) there)

  module _ (hit : Hit) (old mid : OpsByKey) (before : ChangesKey key (with_saves_till (Some hit)) old mid) where
    -- if a hit of an event of the trace comes next, no save stands there yet
    pub unsaved : ((pos : Pos) → ops_of old key (record { pos = pos; trigger = id }) ≡ None) → hit.spot.maker ≡ 0 → ops_of mid key (record { pos = hit.spot.pos; trigger = id }) ≡ None
    unsaved none own =
        let itself : is_lt (spot_cmp (traced hit.spot.pos) hit.spot) ≡ false =
        ap (λ n. is_lt (spot_cmp (record { pos = hit.spot.pos; maker = n }) hit.spot)) (sym own) ∙ not_below (spot_cmp hit.spot hit.spot) ((eq_by_cmp_equiv spot_cmp_total).refl hit.spot) in
        before key (record { pos = hit.spot.pos; trigger = id })
        ∙ ap (λ b. cond (same_key key key) (cond (b && saves_here (record { pos = hit.spot.pos; trigger = id })) (Some Save) (ops_of old key (record { pos = hit.spot.pos; trigger = id }))) (ops_of old key (record { pos = hit.spot.pos; trigger = id }))) itself
        ∙ cond_same (same_key key key) _ ∙ none hit.spot.pos

    -- with a save at it, if it saves, they stand till the next one
    pub one_further : (next : Option Hit) → hit_after hits key (Some hit.spot) ≡ next → is_some (map.get hits (mark hit.spot key)) ≡ true
        → (new : OpsByKey) → ChangesKey key (with_save id hit.spot) mid new → ChangesKey key (with_saves_till next) old new
    one_further next is there new put k q =
        let spot = hit.spot in
        let pos = eq_by_cmp pos_cmp q.pos spot.pos in
        let passes : is_some (map.get hits (mark (traced q.pos) key)) ≡ true → is_till next (traced q.pos) ≡ (is_lt (spot_cmp (traced q.pos) spot) || (pos && (spot.maker == 0))) =
        λ here.
        ap (λ n. is_till n (traced q.pos)) (sym is)
        ∙ till_next hits key (Some spot) (traced q.pos) here
        ∙ not_behind spot_cmp_total spot (traced q.pos)
        ∙ ap (λ b. is_lt (spot_cmp (traced q.pos) spot) || b) (sym (tied_then (pos_cmp q.pos spot.pos) (nat_cmp 0 spot.maker)) ∙ ap (λ b. pos && b) (zero_ties spot.maker)) in
        let stands : (spot.maker == 0) ≡ true → pos ≡ true → is_some (map.get hits (mark (traced q.pos) key)) ≡ true =
        λ own tie. (λ i. is_some (map.get hits (mark (record { pos = same_from_tie pos_same q.pos spot.pos tie i; maker = sym (eqb-true spot.maker 0 own) i }) key))) ∙ there in
        put_one (same_key k key) (spot.maker == 0) pos (eq_by_cmp nat_cmp q.trigger id) (is_some (map.get hits (mark (traced q.pos) key))) (is_lt (spot_cmp (traced q.pos) spot)) (is_till next (traced q.pos))
        (Some Save) (ops_of old k q) passes stands (ops_of mid k q) (ops_of new k q)
        (put k q ∙ ap (λ b. cond (same_key k key) (cond ((spot.maker == 0) && b) (Some Save) (ops_of mid k q)) (ops_of mid k q)) (sym (tied_then (pos_cmp q.pos spot.pos) (nat_cmp q.trigger id))))
        (before k q)
