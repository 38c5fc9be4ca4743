-- Looking up one hit: among all, among those of its key, and in the map of entries by key.
use Rattle.std.proofs.Common.{◌≡◌, Bool, true, false, cond, T, List, [], ◌∷◌, ◌++◌, map as list_map, refl, sym, ap, ◌∙◌, Some, None, Option, unwrap_or}
use Rattle.std.specs.Prelude.{ℤ, ◌&&◌, option_and_then}
use Rattle.std.specs.List.{filter, flat_map}
use Rattle.std.specs.Ordering.{is_eq, eq_by_cmp}
use Rattle.std.specs.Cmp.{eq_by_cmp_equiv, tied_then}
use Rattle.std.specs.FinMap as map
use Rattle.std.specs.FinMap.{find, is_sorted, entries_sorted, get-entries, get-empty, get-insert, get-remove, get-from_entries, same_map}
use Rattle.ft_maps.specs.Entries.{and_left, and_right, is_less}
use Rattle.ft_maps.proofs.Common.{and_true, and_false}
pub use Rattle.ft_maps.specs.Entries.{equal_from_tie as is_equal}
use Rattle.ft_hits.specs.declared.spot.Spot.{Spot}
use Rattle.ft_fields.specs.declared.key.Part.{Part}
use Rattle.ft_fields.specs.Parts.{key_cmp, same_key}
use Rattle.ft_hits.specs.declared.mark.Mark.{Mark}
use Rattle.ft_hits.specs.Spots.{spot_cmp, spot_cmp_total, spot_same}
use Rattle.ft_hits.specs.Marks.{mark_cmp, mark_cmp_total, mark_same}
use Rattle.ft_hits.specs.Hits.{EntryHits, Hits, hits_of}
use Rattle.ft_hits.specs.ByKey.{HitsByKey, flat}
use Rattle.ft_fields.specs.Orders.{key_cmp_total}
use Rattle.ft_fields.specs.Ties.{key_same}

abbrev pub mark : Spot → List Part → Mark
mark spot key = record { spot = spot; key = key }

abbrev Pair : Type 0
Pair = Mark × List ℤ

-- two marks tie exactly if both their parts do
pub marks_tie : (p q : Mark) → eq_by_cmp mark_cmp p q ≡ (eq_by_cmp spot_cmp p.spot q.spot && same_key p.key q.key)
marks_tie p q = sym (tied_then (spot_cmp p.spot q.spot) (key_cmp p.key q.key))

pub same_itself : (k : List Part) → same_key k k ≡ true
same_itself k = (eq_by_cmp_equiv key_cmp_total).refl k

pub same_back : (k q : List Part) → same_key k q ≡ same_key q k
same_back k q = (eq_by_cmp_equiv key_cmp_total).symm k q

pub same_is : (k q : List Part) → same_key k q ≡ true → k ≡ q
same_is k q e = key_same k q (is_equal _ e)

-- ---- among the hits of a key

find-hits_of : (spot : Spot) (key : List Part) (es : List Pair) → find spot_cmp spot (list_map (λ e. (e.0.spot, e.1)) (filter (λ e. same_key e.0.key key) es)) ≡ find mark_cmp (mark spot key) es
find-hits_of spot key [] = refl
find-hits_of spot key (e ∷ es) =
    let rest = find-hits_of spot key es in
    let tie : eq_by_cmp mark_cmp (mark spot key) e.0 ≡ (eq_by_cmp spot_cmp spot e.0.spot && same_key e.0.key key) = marks_tie (mark spot key) e.0 ∙ ap (λ b. eq_by_cmp spot_cmp spot e.0.spot && b) (same_back key e.0.key) in
    elim (same_key e.0.key key) as (λ b. eq_by_cmp mark_cmp (mark spot key) e.0 ≡ (eq_by_cmp spot_cmp spot e.0.spot && b) → find spot_cmp spot (list_map (λ e. (e.0.spot, e.1)) (cond b (e ∷ filter (λ e. same_key e.0.key key) es) (filter (λ e. same_key e.0.key key) es))) ≡ cond (eq_by_cmp mark_cmp (mark spot key) e.0) (Some e.1) (find mark_cmp (mark spot key) es)) [
      | true ↦ λ t. (λ i. cond (sym (t ∙ and_true _) i) (Some e.1) (rest i))
      | false ↦ λ t. rest ∙ ap (λ b. cond b (Some e.1) (find mark_cmp (mark spot key) es)) (sym (t ∙ and_false _))
    ] tie

pub get-hits_of : (hits : Hits) (spot : Spot) (key : List Part) → map.get (hits_of hits key) spot ≡ map.get hits (mark spot key)
unfolding hits_of
get-hits_of hits spot key = get-from_entries spot_cmp_total _ spot ∙ find-hits_of spot key (map.entries hits) ∙ sym (get-entries hits (mark spot key))

-- ---- in the map of entries

abbrev with_key : List Part × EntryHits → List Pair
with_key entry = list_map (λ e. (mark e.0 entry.0, e.1)) (map.entries entry.1)

either : {X : Type 0} → Option X → Option X → Option X
either (Some x) o = Some x
either None o = o

find-both : (q : Mark) (es fs : List Pair) → find mark_cmp q (es ++ fs) ≡ either (find mark_cmp q es) (find mark_cmp q fs)
unfolding either
find-both q [] fs = refl
find-both q (e ∷ es) fs = elim (eq_by_cmp mark_cmp q e.0) as (λ b. cond b (Some e.1) (find mark_cmp q (es ++ fs)) ≡ either (cond b (Some e.1) (find mark_cmp q es)) (find mark_cmp q fs)) [ true ↦ refl | false ↦ find-both q es fs ]

find-with_key : (q : Mark) (key : List Part) (es : List (Spot × List ℤ)) → find mark_cmp q (list_map (λ e. (mark e.0 key, e.1)) es) ≡ cond (same_key q.key key) (find spot_cmp q.spot es) None
find-with_key q key [] = elim (same_key q.key key) as (λ b. ◌≡◌ {A = Option (List ℤ)} None (cond b None None)) [ true ↦ refl | false ↦ refl ]
find-with_key q key (e ∷ es) =
    elim (same_key q.key key) as (λ b. eq_by_cmp mark_cmp q (mark e.0 key) ≡ (eq_by_cmp spot_cmp q.spot e.0 && b) → find mark_cmp q (list_map (λ e. (mark e.0 key, e.1)) es) ≡ cond b (find spot_cmp q.spot es) None → cond (eq_by_cmp mark_cmp q (mark e.0 key)) (Some e.1) (find mark_cmp q (list_map (λ e. (mark e.0 key, e.1)) es)) ≡ cond b (cond (eq_by_cmp spot_cmp q.spot e.0) (Some e.1) (find spot_cmp q.spot es)) None) [
      | true ↦ λ t rest i. cond ((t ∙ and_true _) i) (Some e.1) (rest i)
      | false ↦ λ t rest i. cond ((t ∙ and_false _) i) (Some e.1) (rest i)
    ] (marks_tie q (mark e.0 key)) (find-with_key q key es)

none_above : (q : Mark) (key : List Part) (by_key : List (List Part × EntryHits)) → same_key q.key key ≡ true → T (map.Entries.below_all key_cmp key by_key) → find mark_cmp q (flat_map with_key by_key) ≡ None
unfolding either
none_above q key [] same h = refl
none_above q key (entry ∷ by_key) same h =
    let apart : same_key q.key entry.0 ≡ false = ap (λ k. same_key k entry.0) (same_is q.key key same) ∙ ap is_eq (is_less _ (and_left _ _ h)) in
    find-both q (with_key entry) (flat_map with_key by_key)
    ∙ ap (λ o. either o (find mark_cmp q (flat_map with_key by_key))) (find-with_key q entry.0 (map.entries entry.1) ∙ ap (λ b. cond b (find spot_cmp q.spot (map.entries entry.1)) None) apart)
    ∙ none_above q key by_key same (and_right _ _ h)

either_none : {X : Type 0} (o : Option X) → either o None ≡ o
unfolding either
either_none None = refl
either_none (Some x) = refl

find-flat : (q : Mark) (by_key : List (List Part × EntryHits)) → T (is_sorted key_cmp by_key) → find mark_cmp q (flat_map with_key by_key) ≡ option_and_then (λ entry. map.get entry q.spot) (find key_cmp q.key by_key)
unfolding either
find-flat q [] h = refl
find-flat q (entry ∷ by_key) h =
    let here : find mark_cmp q (with_key entry) ≡ cond (same_key q.key entry.0) (find spot_cmp q.spot (map.entries entry.1)) None = find-with_key q entry.0 (map.entries entry.1) in
    find-both q (with_key entry) (flat_map with_key by_key) ∙
    elim (same_key q.key entry.0) as (λ b. same_key q.key entry.0 ≡ b → find mark_cmp q (with_key entry) ≡ cond b (find spot_cmp q.spot (map.entries entry.1)) None → either (find mark_cmp q (with_key entry)) (find mark_cmp q (flat_map with_key by_key)) ≡ option_and_then (λ entry. map.get entry q.spot) (cond b (Some entry.1) (find key_cmp q.key by_key))) [
      | true ↦ λ same is. (λ i. either (is i) (none_above q entry.0 by_key same (and_left _ _ h) i)) ∙ either_none _ ∙ sym (get-entries entry.1 q.spot)
      | false ↦ λ same is. ap (λ o. either o (find mark_cmp q (flat_map with_key by_key))) is ∙ find-flat q by_key (and_right _ _ h)
    ] refl here

-- a hit stands in the entry of its key
pub get-flat : (by_key : HitsByKey) (q : Mark) → map.get (flat by_key) q ≡ option_and_then (λ entry. map.get entry q.spot) (map.get by_key q.key)
unfolding flat
get-flat by_key q = get-from_entries mark_cmp_total _ q ∙ find-flat q (map.entries by_key) (entries_sorted by_key) ∙ ap (option_and_then (λ entry. map.get entry q.spot)) (sym (get-entries by_key q.key))

entry_get : (o : Option EntryHits) (spot : Spot) → option_and_then (λ entry. map.get entry spot) o ≡ map.get (unwrap_or o map.empty) spot
entry_get None spot = sym (get-empty spot_cmp spot)
entry_get (Some entry) spot = refl

-- the hits of a key are those of its entry
pub hits_of-flat : (by_key : HitsByKey) (key : List Part) → hits_of (flat by_key) key ≡ unwrap_or (map.get by_key key) map.empty
hits_of-flat by_key key = same_map spot_cmp_total spot_same _ _ (λ spot. get-hits_of (flat by_key) spot key ∙ get-flat by_key (mark spot key) ∙ entry_get (map.get by_key key) spot)

-- ---- putting a hit in, and taking one out

pub at_key : (by_key : HitsByKey) (m q : Mark) (entry : EntryHits) → map.get (flat (map.insert by_key m.key entry)) q ≡ cond (same_key q.key m.key) (map.get entry q.spot) (map.get (flat by_key) q)
at_key by_key m q entry =
    get-flat (map.insert by_key m.key entry) q
    ∙ ap (option_and_then (λ entry. map.get entry q.spot)) (get-insert key_cmp_total by_key m.key entry q.key)
    ∙ elim (same_key q.key m.key) as (λ b. option_and_then (λ entry. map.get entry q.spot) (cond b (Some entry) (map.get by_key q.key)) ≡ cond b (map.get entry q.spot) (map.get (flat by_key) q)) [ true ↦ refl | false ↦ sym (get-flat by_key q) ]

entry_of : (by_key : HitsByKey) (m q : Mark) → same_key q.key m.key ≡ true → map.get (unwrap_or (map.get by_key m.key) map.empty) q.spot ≡ map.get (flat by_key) q
entry_of by_key m q same =
    ap (λ k. map.get (unwrap_or (map.get by_key k) map.empty) q.spot) (sym (same_is q.key m.key same)) ∙ sym (entry_get (map.get by_key q.key) q.spot) ∙ sym (get-flat by_key q)

pub flat-insert : (by_key : HitsByKey) (m : Mark) (v : List ℤ) → flat (map.insert by_key m.key (map.insert (unwrap_or (map.get by_key m.key) map.empty) m.spot v)) ≡ map.insert (flat by_key) m v
flat-insert by_key m v = same_map mark_cmp_total mark_same _ _ (λ q.
    at_key by_key m q (map.insert (unwrap_or (map.get by_key m.key) map.empty) m.spot v)
    ∙ ap (λ o. cond (same_key q.key m.key) o (map.get (flat by_key) q)) (get-insert spot_cmp_total (unwrap_or (map.get by_key m.key) map.empty) m.spot v q.spot)
    ∙ elim (same_key q.key m.key) as (λ b. same_key q.key m.key ≡ b → cond b (cond (eq_by_cmp spot_cmp q.spot m.spot) (Some v) (map.get (unwrap_or (map.get by_key m.key) map.empty) q.spot)) (map.get (flat by_key) q) ≡ cond (eq_by_cmp spot_cmp q.spot m.spot && b) (Some v) (map.get (flat by_key) q)) [
      | true ↦ λ same i. cond (sym (and_true (eq_by_cmp spot_cmp q.spot m.spot)) i) (Some v) (entry_of by_key m q same i)
      | false ↦ λ same. ap (λ b. cond b (Some v) (map.get (flat by_key) q)) (sym (and_false _))
    ] refl
    ∙ ap (λ b. cond b (Some v) (map.get (flat by_key) q)) (sym (marks_tie q m))
    ∙ sym (get-insert mark_cmp_total (flat by_key) m v q))

pub flat-remove : (by_key : HitsByKey) (m : Mark) (entry : EntryHits) → map.get by_key m.key ≡ Some entry → flat (map.insert by_key m.key (map.remove entry m.spot)) ≡ map.remove (flat by_key) m
flat-remove by_key m entry is = same_map mark_cmp_total mark_same _ _ (λ q.
    at_key by_key m q (map.remove entry m.spot)
    ∙ ap (λ o. cond (same_key q.key m.key) o (map.get (flat by_key) q)) (get-remove spot_cmp_total entry m.spot q.spot)
    ∙ elim (same_key q.key m.key) as (λ b. same_key q.key m.key ≡ b → cond b (cond (eq_by_cmp spot_cmp q.spot m.spot) None (map.get entry q.spot)) (map.get (flat by_key) q) ≡ cond (eq_by_cmp spot_cmp q.spot m.spot && b) None (map.get (flat by_key) q)) [
      | true ↦ λ same i. cond (sym (and_true (eq_by_cmp spot_cmp q.spot m.spot)) i) None ((ap (λ o. map.get (unwrap_or o map.empty) q.spot) (sym is) ∙ entry_of by_key m q same) i)
      | false ↦ λ same. ap (λ b. cond b None (map.get (flat by_key) q)) (sym (and_false _))
    ] refl
    ∙ ap (λ b. cond b None (map.get (flat by_key) q)) (sym (marks_tie q m))
    ∙ sym (get-remove mark_cmp_total (flat by_key) m q))

nowhere : (by_key : HitsByKey) (m q : Mark) → map.get by_key m.key ≡ None → (b : Bool) → eq_by_cmp mark_cmp q m ≡ b → map.get (flat by_key) q ≡ cond b None (map.get (flat by_key) q)
nowhere by_key m q none true tie =
    ap (map.get (flat by_key)) (mark_same q m (is_equal _ tie)) ∙ get-flat by_key m ∙ ap (option_and_then (λ entry. map.get entry m.spot)) none
nowhere by_key m q none false tie = refl

pub flat-absent : (by_key : HitsByKey) (m : Mark) → map.get by_key m.key ≡ None → flat by_key ≡ map.remove (flat by_key) m
flat-absent by_key m none = same_map mark_cmp_total mark_same _ _ (λ q. nowhere by_key m q none (eq_by_cmp mark_cmp q m) refl ∙ sym (get-remove mark_cmp_total (flat by_key) m q))

-- ---- a key without hits

no_hits_at : (by_key : HitsByKey) (key : List Part) (q : Mark) → map.get by_key key ≡ Some map.empty → (b : Bool) → same_key q.key key ≡ b
    → option_and_then (λ entry. map.get entry q.spot) (cond b None (map.get by_key q.key)) ≡ option_and_then (λ entry. map.get entry q.spot) (map.get by_key q.key)
no_hits_at by_key key q is true same =
    sym (ap (λ k. option_and_then (λ entry. map.get entry q.spot) (map.get by_key k)) (same_is q.key key same)
    ∙ ap (option_and_then (λ entry. map.get entry q.spot)) is ∙ get-empty spot_cmp q.spot)
no_hits_at by_key key q is false same = refl

-- it can go
pub flat-clear : (by_key : HitsByKey) (key : List Part) → map.get by_key key ≡ Some map.empty → flat (map.remove by_key key) ≡ flat by_key
flat-clear by_key key is = same_map mark_cmp_total mark_same _ _ (λ q.
    get-flat (map.remove by_key key) q ∙ ap (option_and_then (λ entry. map.get entry q.spot)) (get-remove key_cmp_total by_key key q.key)
    ∙ no_hits_at by_key key q is (same_key q.key key) refl ∙ sym (get-flat by_key q))
