-- The first hits of all keys, as those of one key change.
use Rattle.std.proofs.Common.{◌≡◌, ℕ, ◌<◌, Bool, true, false, cond, List, [], ◌∷◌, length, get_or, refl, sym, ap, ◌∙◌, Some, None, Option}
use Rattle.std.specs.Prelude.{ℤ, ◌&&◌, not}
use Rattle.std.specs.List.{insert, remove}
use Rattle.std.specs.Option.{option_map_or}
use Rattle.std.specs.Ordering.{is_eq, eq_by_cmp}
use Rattle.std.specs.FinMap as map
use Rattle.std.specs.FinMap.{FinMap, find, get-entries, get-insert, get-retain_keys, same_map}
use Rattle.std.proofs.lemmas.Cmp.{tied_itself}
use Rattle.ft_hits.specs.declared.spot.Spot.{Spot}
use Rattle.ft_fields.specs.declared.key.Part.{Part}
use Rattle.ft_fields.specs.Parts.{same_key}
use Rattle.ft_hits.specs.declared.mark.Mark.{Mark}
use Rattle.ft_hits.specs.Spots.{spot_cmp, spot_cmp_total, spot_same}
use Rattle.ft_hits.specs.Marks.{mark_cmp, mark_cmp_total, mark_same}
use Rattle.ft_table.specs.inner.Ascending.{IsRank}
use Rattle.ft_hits.specs.Hits.{Hits, hits_of, least_key, first_place}
use Rattle.ft_table.specs.Tabled.{is_first, first_hits, order_of}
use Rattle.ft_table.specs.inner.Moves.{others, order_without, order_with}
use Rattle.ft_hits.proofs.Flat.{mark, is_equal, marks_tie, same_itself, same_is, get-hits_of}
use Rattle.ft_table.proofs.Sorted.{keys-insert, keys-without, keys-found, keys-insert-any}

pub get-first_hits : (hits : Hits) (q : Mark) → map.get (first_hits hits) q ≡ cond (is_first hits q) (map.get hits q) None
unfolding first_hits
get-first_hits hits q = get-retain_keys hits (is_first hits) q (λ x tie. ap (is_first hits) (sym (mark_same q x tie)))

pub get-others : (hits : Hits) (key : List Part) (q : Mark) → map.get (others hits key) q ≡ cond (not (same_key q.key key)) (map.get (first_hits hits) q) None
unfolding others
get-others hits key q = get-retain_keys (first_hits hits) (λ m. not (same_key m.key key)) q (λ x tie. ap (λ (m : Mark). not (same_key m.key key)) (sym (mark_same q x tie)))

pub no_entries : {X : Type 0} (spot : Spot) (es : List (Spot × X)) → least_key es ≡ None → find spot_cmp spot es ≡ None
no_entries spot [] none = refl
no_entries spot (e ∷ es) none = cc

first_entry : {X : Type 0} (spot : Spot) (es : List (Spot × X)) → least_key es ≡ Some spot → (v : X) × (find spot_cmp spot es ≡ Some v)
first_entry spot [] is = cc
first_entry spot (e ∷ es) is = let same : e.0 ≡ spot = cc in (e.1, ap (λ (p : Spot). cond (eq_by_cmp spot_cmp p e.0) (Some e.1) (find spot_cmp p es)) (sym same) ∙ ap (λ o. cond (is_eq o) (Some e.1) (find spot_cmp e.0 es)) (tied_itself spot_cmp_total e.0))

-- a key without a first hit has none
pub no_first : (hits : Hits) (key : List Part) → first_place hits key ≡ None → (spot : Spot) → map.get hits (mark spot key) ≡ None
no_first hits key none spot = sym (get-hits_of hits spot key) ∙ get-entries (hits_of hits key) spot ∙ no_entries spot (map.entries (hits_of hits key)) none

-- and a first hit is a hit
pub first_is_hit : (hits : Hits) (key : List Part) (spot : Spot) → first_place hits key ≡ Some spot → (v : List ℤ) × (map.get hits (mark spot key) ≡ Some v)
first_is_hit hits key spot is =
    let at = first_entry spot (map.entries (hits_of hits key)) is in
    (at.0, sym (get-hits_of hits spot key) ∙ get-entries (hits_of hits key) spot ∙ at.1)

-- ---- one key's first hit, and the others'

with_none : (hits : Hits) (key : List Part) → first_place hits key ≡ None → (q : Mark) (b : Bool) → same_key q.key key ≡ b → cond (is_first hits q) (map.get hits q) None ≡ cond (not b) (cond (is_first hits q) (map.get hits q) None) None
with_none hits key none q true same =
    let at : map.get hits q ≡ None = ap (λ (k : List Part). map.get hits (mark q.spot k)) (same_is q.key key same) ∙ no_first hits key none q.spot in
    ap (λ o. cond (is_first hits q) o None) at ∙ elim (is_first hits q) as (λ b. ◌≡◌ {A = Option (List ℤ)} (cond b None None) None) [ true ↦ refl | false ↦ refl ]
with_none hits key none q false same = refl

pub first_hits-none : (hits : Hits) (key : List Part) → first_place hits key ≡ None → first_hits hits ≡ others hits key
first_hits-none hits key none = same_map mark_cmp_total mark_same _ _ (λ q.
    get-first_hits hits q ∙ with_none hits key none q (same_key q.key key) refl
    ∙ sym (get-others hits key q ∙ ap (λ o. cond (not (same_key q.key key)) o None) (get-first_hits hits q)))

with_first : (hits : Hits) (key : List Part) (spot : Spot) (v : List ℤ) → first_place hits key ≡ Some spot → map.get hits (mark spot key) ≡ Some v → (q : Mark) (b a : Bool) → same_key q.key key ≡ b → eq_by_cmp spot_cmp q.spot spot ≡ a
    → cond (is_first hits q) (map.get hits q) None ≡ cond (a && b) (Some v) (cond (not b) (cond (is_first hits q) (map.get hits q) None) None)
with_first hits key spot v is has q true a same at =
    let k : q.key ≡ key = same_is q.key key same in
    let first : is_first hits q ≡ a = ap (λ o. option_map_or (eq_by_cmp spot_cmp q.spot) o false) (ap (first_place hits) k ∙ is) ∙ at in
    ap (λ b. cond b (map.get hits q) None) first ∙
    elim a as (λ a. eq_by_cmp spot_cmp q.spot spot ≡ a → cond a (map.get hits q) None ≡ cond (a && true) (Some v) None) [
      | true ↦ λ at. (λ i. map.get hits (mark (spot_same q.spot spot (is_equal _ at) i) (k i))) ∙ has
      | false ↦ λ at. refl
    ] at
with_first hits key spot v is has q false true same at = refl
with_first hits key spot v is has q false false same at = refl

pub first_hits-some : (hits : Hits) (key : List Part) (spot : Spot) (v : List ℤ) → first_place hits key ≡ Some spot → map.get hits (mark spot key) ≡ Some v → first_hits hits ≡ map.insert (others hits key) (mark spot key) v
first_hits-some hits key spot v is has = same_map mark_cmp_total mark_same _ _ (λ q.
    get-first_hits hits q ∙ with_first hits key spot v is has q (same_key q.key key) (eq_by_cmp spot_cmp q.spot spot) refl refl
    ∙ sym (get-insert mark_cmp_total (others hits key) (mark spot key) v q
    ∙ (λ i. cond (marks_tie q (mark spot key) i) (Some v) (get-others hits key q i))
    ∙ ap (λ o. cond (eq_by_cmp spot_cmp q.spot spot && same_key q.key key) (Some v) (cond (not (same_key q.key key)) o None)) (get-first_hits hits q)))

pub not_among_others : (hits : Hits) (m : Mark) → map.get (others hits m.key) m ≡ None
not_among_others hits m = get-others hits m.key m ∙ ap (λ b. cond (not b) (map.get (first_hits hits) m) None) (same_itself m.key)

-- ---- in order

pub order-none : (hits : Hits) (key : List Part) → first_place hits key ≡ None → order_of hits ≡ order_without hits key
order-none hits key none = ap map.keys (first_hits-none hits key none)

pub order-some : (hits : Hits) (key : List Part) (spot : Spot) → first_place hits key ≡ Some spot → order_of hits ≡ order_with hits (mark spot key)
order-some hits key spot is =
    let at = first_is_hit hits key spot is in
    ap map.keys (first_hits-some hits key spot at.0 is at.1) ∙ keys-insert-any mark_cmp_total (others hits key) (mark spot key) at.0 []

pub order-enter : (hits : Hits) (m : Mark) (i : ℕ) → IsRank mark_cmp (order_without hits m.key) m i → order_with hits m ≡ insert (order_without hits m.key) i m
order-enter hits m i at = keys-insert mark_cmp_total (others hits m.key) m [] i (not_among_others hits m) at

pub order-leave : (hits : Hits) (m : Mark) (i : ℕ) → IsRank mark_cmp (order_with hits m) m i → order_without hits m.key ≡ remove (order_with hits m) i
order-leave hits m i at = keys-without mark_cmp_total (others hits m.key) m [] i (not_among_others hits m) at

-- ---- what other keys have is no matter

abbrev pub SameBeside : Hits → Hits → List Part → Type 0
SameBeside hits after key = (q : Mark) → same_key q.key key ≡ false → map.get after q ≡ map.get hits q

pub hits_of-beside : (hits after : Hits) (key q : List Part) → SameBeside hits after key → same_key q key ≡ false → hits_of after q ≡ hits_of hits q
hits_of-beside hits after key q same apart = same_map spot_cmp_total spot_same _ _ (λ spot. get-hits_of after spot q ∙ same (mark spot q) apart ∙ sym (get-hits_of hits spot q))

others_at : (hits after : Hits) (key : List Part) → SameBeside hits after key → (q : Mark) (b : Bool) → same_key q.key key ≡ b → cond (not b) (cond (is_first after q) (map.get after q) None) None ≡ cond (not b) (cond (is_first hits q) (map.get hits q) None) None
others_at hits after key same q true e = refl
others_at hits after key same q false e =
    let first : is_first after q ≡ is_first hits q = ap (λ (entry : FinMap spot_cmp (List ℤ)). option_map_or (eq_by_cmp spot_cmp q.spot) (least_key (map.entries entry)) false) (hits_of-beside hits after key q.key same e) in
    λ i. cond (first i) (same q e i) None

pub others-beside : (hits after : Hits) (key : List Part) → SameBeside hits after key → others after key ≡ others hits key
others-beside hits after key same = same_map mark_cmp_total mark_same _ _ (λ q.
    get-others after key q ∙ ap (λ o. cond (not (same_key q.key key)) o None) (get-first_hits after q)
    ∙ others_at hits after key same q (same_key q.key key) refl
    ∙ sym (get-others hits key q ∙ ap (λ o. cond (not (same_key q.key key)) o None) (get-first_hits hits q)))

pub order-found : (hits : Hits) (m : Mark) (i : ℕ) → IsRank mark_cmp (order_with hits m) m i → (i < length (order_with hits m)) × ((d : Mark) → get_or (order_with hits m) i d ≡ m)
order-found hits m i at = keys-found mark_cmp_total (others hits m.key) m [] i (not_among_others hits m) at
