-- Hits and their counts, as one is put in or taken out.
use Rattle.std.proofs.Common.{◌≡◌, ◌+◌, ◌-◌, Bool, true, false, cond, List, [], ◌∷◌, length, refl, sym, ap, ◌∙◌, arith, Some, None, Option}
use Rattle.std.specs.Prelude.{ℤ, ◌&&◌, is_some}
use Rattle.std.specs.Ordering.{eq_by_cmp}
use Rattle.std.specs.Cmp.{eq_by_cmp_equiv}
use Rattle.std.specs.FinMap as map
use Rattle.std.specs.FinMap.{get-insert, get-remove, len-insert, len-entries, same_map}
use Rattle.std.proofs.option.Match.{None-if_not_some}
use Rattle.ft_maps.proofs.Common.{and_true, and_false}
use Rattle.ft_hits.specs.declared.spot.Spot.{Spot}
use Rattle.ft_fields.specs.declared.key.Part.{Part}
use Rattle.ft_fields.specs.Parts.{same_key}
use Rattle.ft_hits.specs.declared.mark.Mark.{Mark}
use Rattle.ft_hits.specs.Spots.{spot_cmp, spot_cmp_total, spot_same}
use Rattle.ft_hits.specs.Marks.{mark_cmp, mark_cmp_total, mark_same}
use Rattle.ft_hits.specs.Hits.{Hits, hits_of, least_key, first_place, hitcount}
use Rattle.ft_table.specs.Tabled.{order_of}
use Rattle.ft_table.specs.inner.Moves.{order_before, with_less, with_more}
use Rattle.ft_hits.proofs.Flat.{mark, is_equal, marks_tie, same_itself, same_is, get-hits_of}
use Rattle.ft_table.proofs.Firsts.{SameBeside, hits_of-beside, others-beside, order-none, order-some}

-- other keys' hits are no part of it
pub insert-beside : (hits : Hits) (m : Mark) (v : List ℤ) → SameBeside hits (map.insert hits m v) m.key
insert-beside hits m v q apart =
    get-insert mark_cmp_total hits m v q ∙ ap (λ b. cond b (Some v) (map.get hits q)) (marks_tie q m ∙ ap (λ b. eq_by_cmp spot_cmp q.spot m.spot && b) apart ∙ and_false _)

pub remove-beside : (hits : Hits) (m : Mark) → SameBeside hits (map.remove hits m) m.key
remove-beside hits m q apart =
    get-remove mark_cmp_total hits m q ∙ ap (λ b. cond b None (map.get hits q)) (marks_tie q m ∙ ap (λ b. eq_by_cmp spot_cmp q.spot m.spot && b) apart ∙ and_false _)

-- among the hits of its own key
tie_here : (m : Mark) (spot : Spot) → eq_by_cmp mark_cmp (mark spot m.key) m ≡ eq_by_cmp spot_cmp spot m.spot
tie_here m spot = marks_tie (mark spot m.key) m ∙ ap (λ b. eq_by_cmp spot_cmp spot m.spot && b) (same_itself m.key) ∙ and_true _

pub hits_of-insert : (hits : Hits) (m : Mark) (v : List ℤ) → hits_of (map.insert hits m v) m.key ≡ map.insert (hits_of hits m.key) m.spot v
hits_of-insert hits m v = same_map spot_cmp_total spot_same _ _ (λ spot.
    get-hits_of (map.insert hits m v) spot m.key ∙ get-insert mark_cmp_total hits m v (mark spot m.key)
    ∙ (λ i. cond (tie_here m spot i) (Some v) (sym (get-hits_of hits spot m.key) i))
    ∙ sym (get-insert spot_cmp_total (hits_of hits m.key) m.spot v spot))

module _ (hits : Hits) (m : Mark) (v : List ℤ) (absent : map.get hits m ≡ None) where
  pub count-insert : hitcount (map.insert hits m v) m.key ≡ hitcount hits m.key + 1
  count-insert =
      ap map.len (hits_of-insert hits m v) ∙ len-insert spot_cmp_total (hits_of hits m.key) m.spot v
      ∙ ap (λ o. cond (is_some o) (hitcount hits m.key) (hitcount hits m.key + 1)) (get-hits_of hits m.spot m.key ∙ absent)

  pub counts-insert : (q : List Part) (b : Bool) → same_key q m.key ≡ b → hitcount (map.insert hits m v) q ≡ cond b (hitcount hits m.key + 1) (hitcount hits q)
  counts-insert q true same = ap (hitcount (map.insert hits m v)) (same_is q m.key same) ∙ count-insert
  counts-insert q false apart = ap map.len (hits_of-beside hits (map.insert hits m v) m.key q (insert-beside hits m v) apart)

  less : (q : List Part) (b : Bool) → same_key q m.key ≡ b → hitcount hits q ≡ cond b (hitcount (map.insert hits m v) q - 1) (hitcount (map.insert hits m v) q)
  less q true same =
      let e : hitcount (map.insert hits m v) q ≡ hitcount hits m.key + 1 = counts-insert q true same in
      let f : hitcount hits q ≡ hitcount hits m.key = ap (hitcount hits) (same_is q m.key same) in
      omega arith
  less q false apart = sym (counts-insert q false apart)

  -- the counts before are those after, less the hit
  pub counts-less : hitcount hits ≡ with_less (hitcount (map.insert hits m v)) m.key
  counts-less = λ i q. less q (same_key q m.key) refl i

-- what is taken out can be put in again
back : (hits : Hits) (m : Mark) (v : List ℤ) → map.get hits m ≡ Some v → (q : Mark) (b : Bool) → eq_by_cmp mark_cmp q m ≡ b → cond b (Some v) (cond b None (map.get hits q)) ≡ map.get hits q
back hits m v is q true tie = sym (ap (map.get hits) (mark_same q m (is_equal _ tie)) ∙ is)
back hits m v is q false tie = refl

pub put_back : (hits : Hits) (m : Mark) (v : List ℤ) → map.get hits m ≡ Some v → map.insert (map.remove hits m) m v ≡ hits
put_back hits m v is = same_map mark_cmp_total mark_same _ _ (λ q.
    get-insert mark_cmp_total (map.remove hits m) m v q ∙ ap (cond (eq_by_cmp mark_cmp q m) (Some v)) (get-remove mark_cmp_total hits m q)
    ∙ back hits m v is q (eq_by_cmp mark_cmp q m) refl)

pub gone : (hits : Hits) (m : Mark) → map.get (map.remove hits m) m ≡ None
gone hits m = get-remove mark_cmp_total hits m m ∙ ap (λ b. cond b None (map.get hits m)) (marks_tie m m ∙ (λ i. itself i && same_itself m.key i)) where
  itself : eq_by_cmp spot_cmp m.spot m.spot ≡ true
  itself = (eq_by_cmp_equiv spot_cmp_total).refl m.spot

some_is : {X : Type 0} (o : Option X) → is_some o ≡ true → (x : X) × (o ≡ Some x)
some_is None is = cc
some_is (Some x) is = (x, refl)

-- taking out what isn't there changes nothing
pub remove-none : (hits : Hits) (m : Mark) → map.contains_key hits m ≡ false → map.remove hits m ≡ hits
remove-none hits m none = same_map mark_cmp_total mark_same _ _ (λ q. get-remove mark_cmp_total hits m q ∙ nothing q (eq_by_cmp mark_cmp q m) refl) where
  nothing : (q : Mark) (b : Bool) → eq_by_cmp mark_cmp q m ≡ b → cond b None (map.get hits q) ≡ map.get hits q
  nothing q true tie = sym (ap (map.get hits) (mark_same q m (is_equal _ tie)) ∙ None-if_not_some _ none)
  nothing q false tie = refl

more : (hits : Hits) (m : Mark) → map.contains_key hits m ≡ true → (q : List Part) (b : Bool) → same_key q m.key ≡ b → hitcount hits q ≡ cond b (hitcount (map.remove hits m) q + 1) (hitcount (map.remove hits m) q)
more hits m has q b same =
    let v = some_is (map.get hits m) has in
    ap (λ (h : Hits). hitcount h q) (sym (put_back hits m v.0 v.1)) ∙ counts-insert (map.remove hits m) m v.0 (gone hits m) q b same ∙ here b same where
      here : (b : Bool) → same_key q m.key ≡ b → cond b (hitcount (map.remove hits m) m.key + 1) (hitcount (map.remove hits m) q) ≡ cond b (hitcount (map.remove hits m) q + 1) (hitcount (map.remove hits m) q)
      here true same = ap (λ k. hitcount (map.remove hits m) k + 1) (sym (same_is q m.key same))
      here false same = refl

-- the counts before are those after, and the hit
pub counts-more : (hits : Hits) (m : Mark) → map.contains_key hits m ≡ true → hitcount hits ≡ with_more (hitcount (map.remove hits m)) m.key
counts-more hits m has = λ i q. more hits m has q (same_key q m.key) refl i

-- ---- the order, except for one key

pub order-before : (hits : Hits) (key : List Part) (o : Option Spot) → first_place hits key ≡ o → order_of hits ≡ order_before hits key o
order-before hits key None is = order-none hits key is
order-before hits key (Some spot) is = order-some hits key spot is

pub order_before-beside : (hits after : Hits) (key : List Part) (o : Option Spot) → SameBeside hits after key → order_before after key o ≡ order_before hits key o
order_before-beside hits after key None same = ap map.keys (others-beside hits after key same)
order_before-beside hits after key (Some spot) same = ap (λ (h : Hits). map.keys (map.insert h (mark spot key) [])) (others-beside hits after key same)

-- the order before a hit came, told by the hits after
pub order-before-insert : (hits : Hits) (m : Mark) (v : List ℤ) (o : Option Spot) → first_place hits m.key ≡ o → order_of hits ≡ order_before (map.insert hits m v) m.key o
order-before-insert hits m v o first = order-before hits m.key o first ∙ sym (order_before-beside hits (map.insert hits m v) m.key o (insert-beside hits m v))

no_list : {X : Type 0} (es : List (Spot × X)) → least_key es ≡ None → length es ≡ 0
no_list [] is = refl
no_list (e ∷ es) is = cc

-- a key without a first hit has no hits
pub hitcount-none : (hits : Hits) (key : List Part) → first_place hits key ≡ None → hitcount hits key ≡ 0
hitcount-none hits key none = len-entries (hits_of hits key) ∙ no_list (map.entries (hits_of hits key)) none
