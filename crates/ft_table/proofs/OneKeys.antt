-- At most two keys change sides.
use Rattle.std.proofs.Common.{◌≡◌, ℕ, zero, suc, ◌+◌, ◌-◌, ◌<◌, ◌≤◌, Bool, true, false, cond, T, List, [], ◌∷◌, length, get_or, take, drop, map as list_map, refl, sym, ap, ◌∙◌, arith, Some, None, Option}
use Rattle.std.specs.Prelude.{ℤ, slice_get}
use Rattle.std.specs.List.{insert, list_any}
use Rattle.std.specs.declared.cmp.Ordering.{Ordering}
use Rattle.std.specs.declared.cmp.Ordering.TheVariants.{Less, Equal, Greater}
use Rattle.std.specs.Ordering.{is_eq, ordering_then, ordering_reverse, eq_by_cmp}
use Rattle.std.specs.FinMap as map
use Rattle.std.specs.FinMap.{find, put, is_sorted, entries_sorted, get-entries, get-remove}
use Rattle.std.proofs.lemmas.List.{get_or_default}
use Rattle.std.proofs.lemmas.List.Edits.{get_or-insert_below, get_or-insert_above, length-insert}
use Rattle.ft_maps.specs.Entries.{and_left, and_right, is_less}
use Rattle.ft_hits.specs.declared.spot.Spot.{Spot}
use Rattle.ft_fields.specs.declared.key.Part.{Part}
use Rattle.ft_fields.specs.Parts.{key_cmp, same_key}
use Rattle.ft_hits.specs.declared.mark.Mark.{Mark}
use Rattle.ft_hits.specs.Spots.{traced, spot_cmp, spot_cmp_total}
use Rattle.ft_hits.specs.Marks.{mark_cmp, mark_cmp_total}
use Rattle.ft_hits.specs.Hits.{Hits, hits_of, least_key, first_place}
use Rattle.ft_table.specs.Tabled.{order_of}
use Rattle.ft_table.specs.inner.Moves.{order_without}
use Rattle.ft_table.specs.OneKey.{AreSameBut, LastGoesOut, FirstComesIn, OneOtherMoves}
use Rattle.std.proofs.lemmas.Cmp.{tied_itself}
use Rattle.ft_fields.specs.Orders.{key_cmp_total}
use Rattle.ft_hits.proofs.Flat.{mark, same_itself, same_is, get-hits_of}
use Rattle.ft_table.proofs.Firsts.{SameBeside, first_is_hit, no_first}
use Rattle.ft_table.proofs.Changes.{insert-beside, remove-beside, order-before, order_before-beside}
use Rattle.ft_table.proofs.Appends.{first_place-insert, first-empty}
use Rattle.ft_table.proofs.Windows.{key_of, stands, NotAt, order-at, rank-le, last-taken, first-dropped, stands-came, stands-before, stands-went, stands-behind}

-- a key that is not the given one differs from it by the test too
not_it : (o : Option (List Part)) (q k : List Part) → (o ≡ Some q → ⊥) → o ≡ Some k → (b : Bool) → same_key q k ≡ b → b ≡ false
not_it o q k ne is true same = absurd (ne (is ∙ ap (λ (x : List Part). Some x) (sym (same_is q k same))))
not_it o q k ne is false same = refl

-- if the second place is less, the first mark isn't
not_before : (a b : Spot) (key : List Part) → spot_cmp b a ≡ Less → mark_cmp (mark a key) (mark b key) ≡ Less → ⊥
not_before a b key less h =
    let turned : spot_cmp a b ≡ Greater = spot_cmp_total.antisymm a b ∙ ap ordering_reverse less in
    let is : mark_cmp (mark a key) (mark b key) ≡ Greater = ap (λ o. ordering_then o (key_cmp key key)) turned in
    let both : Less ≡ Greater = sym h ∙ is in
    cc

none_below : (g x : Spot) (es : List (Spot × List ℤ)) → spot_cmp g x ≡ Less → T (map.Entries.below_all spot_cmp x es) → find spot_cmp g es ≡ None
none_below g x [] less h = refl
none_below g x (e ∷ es) less h =
    ap (λ o. cond (is_eq o) (Some e.1) (find spot_cmp g es)) (spot_cmp_total.trans g x e.0 less (is_less _ (and_left _ _ h))) ∙ none_below g x es less (and_right _ _ h)

-- no hit of a key stands before its first
least : (g f : Spot) (es : List (Spot × List ℤ)) (v : List ℤ) → T (is_sorted spot_cmp es) → least_key es ≡ Some f → find spot_cmp g es ≡ Some v → spot_cmp g f ≡ Less → ⊥
least g f [] v h is at less = cc
least g f (e ∷ es) v h is at less =
    let same : e.0 ≡ f = cc in
    let before : spot_cmp g e.0 ≡ Less = ap (spot_cmp g) same ∙ less in
    let none : find spot_cmp g (e ∷ es) ≡ None = ap (λ o. cond (is_eq o) (Some e.1) (find spot_cmp g es)) before ∙ none_below g e.0 es before (and_left _ _ h) in
    let both : Some v ≡ None = sym at ∙ none in
    cc

pub first_least : (hits : Hits) (key : List Part) (f g : Spot) (v : List ℤ) → first_place hits key ≡ Some f → map.get hits (mark g key) ≡ Some v → spot_cmp g f ≡ Less → ⊥
first_least hits key f g v is at = least g f (map.entries (hits_of hits key)) v (entries_sorted (hits_of hits key)) is (sym (get-entries (hits_of hits key) g) ∙ get-hits_of hits g key ∙ at)

-- a mark isn't before another of its key, whose place isn't after it
marks_not_before : (a b : Spot) (key : List Part) → (spot_cmp a b ≡ Less → ⊥) → (o : Ordering) → spot_cmp a b ≡ o → mark_cmp (mark a key) (mark b key) ≡ Less → key_cmp key key ≡ Equal → ⊥
marks_not_before a b key ne Less is h tie = ne is
marks_not_before a b key ne Equal is h tie = let both : Less ≡ Equal = sym h ∙ ap (λ o. ordering_then o (key_cmp key key)) is ∙ tie in cc
marks_not_before a b key ne Greater is h tie = let both : Less ≡ Greater = sym h ∙ ap (λ o. ordering_then o (key_cmp key key)) is in cc

module _ (hits after : Hits) (key q : List Part) (apart : same_key q key ≡ false) (t : ℕ) (same : SameBeside hits after key) where
  abbrev listed : Hits → Bool
  listed h = list_any (same_key q) (list_map key_of (take (suc t) (order_of h)))

  before-is : (a : Option Spot) → first_place hits key ≡ a → listed hits ≡ stands hits key q apart t a
  before-is a is = ap (λ (ms : List Mark). list_any (same_key q) (list_map key_of (take (suc t) ms))) (order-before hits key a is)

  after-is : (b : Option Spot) → first_place after key ≡ b → listed after ≡ stands hits key q apart t b
  after-is b is = ap (λ (ms : List Mark). list_any (same_key q) (list_map key_of (take (suc t) ms))) (order-before after key b is ∙ order_before-beside hits after key b same)

  -- a key that isn't the last inside
  last_none : (slice_get (list_map key_of (take (suc t) (order_of hits))) (length (list_map key_of (take (suc t) (order_of hits))) - 1) ≡ Some q → ⊥) → first_place hits key ≡ None → NotAt hits key q apart t
  last_none ne none d lt =
      let order : order_of hits ≡ order_without hits key = order-before hits key None none in
      not_it _ q (get_or (order_without hits key) t d).key ne
      (ap (λ (ms : List Mark). slice_get (list_map key_of (take (suc t) ms)) (length (list_map key_of (take (suc t) ms)) - 1)) order ∙ last-taken key_of (same_key q) (order_without hits key) t d lt) _ refl

  last_some : (slice_get (list_map key_of (take (suc t) (order_of hits))) (length (list_map key_of (take (suc t) (order_of hits))) - 1) ≡ Some q → ⊥) → (a : Spot) → first_place hits key ≡ Some a → t < (order-at hits key q apart t a).0 → NotAt hits key q apart t
  last_some ne a is out d lt =
      let at = order-at hits key q apart t a in
      let w = at.1.0.within in
      let order : order_of hits ≡ insert (order_without hits key) at.0 (mark a key) = order-before hits key (Some a) is ∙ at.1.1 in
      let len = length-insert (order_without hits key) at.0 (mark a key) w in
      not_it _ q (get_or (order_without hits key) t d).key ne
      (ap (λ (ms : List Mark). slice_get (list_map key_of (take (suc t) ms)) (length (list_map key_of (take (suc t) ms)) - 1)) order
      ∙ last-taken key_of (same_key q) (insert (order_without hits key) at.0 (mark a key)) t d (omega (arith, len))
      ∙ ap (λ (m : Mark). Some m.key) (get_or-insert_below (order_without hits key) at.0 (mark a key) d t out w)) _ refl

  -- and one that isn't the first outside
  first_some : (slice_get (list_map key_of (drop (suc t) (order_of hits))) 0 ≡ Some q → ⊥) → (a : Spot) → first_place hits key ≡ Some a → (order-at hits key q apart t a).0 ≤ t → NotAt hits key q apart t
  first_some ne a is le d lt =
      let at = order-at hits key q apart t a in
      let w = at.1.0.within in
      let order : order_of hits ≡ insert (order_without hits key) at.0 (mark a key) = order-before hits key (Some a) is ∙ at.1.1 in
      let len = length-insert (order_without hits key) at.0 (mark a key) w in
      let e : suc t ≡ t + 1 = omega arith in
      not_it _ q (get_or (order_without hits key) t d).key ne
      (ap (λ (ms : List Mark). slice_get (list_map key_of (drop (suc t) ms)) 0) order
      ∙ first-dropped key_of (same_key q) (insert (order_without hits key) at.0 (mark a key)) (suc t) d (omega (arith, len))
      ∙ ap (λ (n : ℕ). Some (get_or (insert (order_without hits key) at.0 (mark a key)) n d).key) e
      ∙ ap (λ (m : Mark). Some m.key) (get_or-insert_above (order_without hits key) at.0 (mark a key) d t le w)) _ refl

pub first_put : (p f : Spot) (v : List ℤ) (es : List (Spot × List ℤ)) → least_key es ≡ Some f → (o : Ordering) → spot_cmp p f ≡ o → least_key (put spot_cmp p v es) ≡ map.Entries.by_order o (Some p) (Some f) (Some f)
first_put p f v [] is o at = cc
first_put p f v (e ∷ es) is o at =
    let same : e.0 ≡ f = cc in
    ap (λ o. least_key (map.Entries.by_order o ((p, v) ∷ e ∷ es) ((e.0, v) ∷ es) (e ∷ put spot_cmp p v es))) (ap (spot_cmp p) same ∙ at) ∙
    elim o as (λ o. least_key (map.Entries.by_order o ((p, v) ∷ e ∷ es) ((e.0, v) ∷ es) (e ∷ put spot_cmp p v es)) ≡ map.Entries.by_order o (Some p) (Some f) (Some f)) [ Less ↦ refl | Equal ↦ is | Greater ↦ is ]

module _ (hits : Hits) (m : Mark) (v : List ℤ) (q : List Part) (apart : same_key q m.key ≡ false) (t : ℕ) where
  abbrev after : Hits
  after = map.insert hits m v

  abbrev beside : SameBeside hits after m.key
  beside = insert-beside hits m v

  came : (slice_get (list_map key_of (take (suc t) (order_of hits))) (length (list_map key_of (take (suc t) (order_of hits))) - 1) ≡ Some q → ⊥) → (o : Option Spot) → first_place hits m.key ≡ o → listed hits after m.key q apart t beside after ≡ listed hits after m.key q apart t beside hits
  came ne None none =
      after-is hits after m.key q apart t beside (Some m.spot) (first_place-insert hits m v ∙ first-empty m.spot v (map.entries (hits_of hits m.key)) none)
      ∙ stands-came hits m.key q apart t (last_none hits after m.key q apart t beside ne none) m.spot
      ∙ sym (before-is hits after m.key q apart t beside None none)
  came ne (Some f) is = by (spot_cmp m.spot f) refl where
    first : (o : Ordering) → spot_cmp m.spot f ≡ o → first_place after m.key ≡ map.Entries.by_order o (Some m.spot) (Some f) (Some f)
    first o at = first_place-insert hits m v ∙ first_put m.spot f v (map.entries (hits_of hits m.key)) is o at

    by : (o : Ordering) → spot_cmp m.spot f ≡ o → listed hits after m.key q apart t beside after ≡ listed hits after m.key q apart t beside hits
    by Less at =
        after-is hits after m.key q apart t beside (Some m.spot) (first Less at)
        ∙ stands-before hits m.key q apart t f m.spot (last_some hits after m.key q apart t beside ne f is)
        (rank-le (order_without hits m.key) m (mark f m.key) _ _ (order-at hits m.key q apart t m.spot).1.0 (order-at hits m.key q apart t f).1.0 (not_before f m.spot m.key at))
        ∙ sym (before-is hits after m.key q apart t beside (Some f) is)
    by Equal at = after-is hits after m.key q apart t beside (Some f) (first Equal at) ∙ sym (before-is hits after m.key q apart t beside (Some f) is)
    by Greater at = after-is hits after m.key q apart t beside (Some f) (first Greater at) ∙ sym (before-is hits after m.key q apart t beside (Some f) is)

kept_hit : (hits : Hits) (m q : Mark) (v : List ℤ) → map.get (map.remove hits m) q ≡ Some v → map.get hits q ≡ Some v
kept_hit hits m q v is = of (eq_by_cmp mark_cmp q m) (sym (get-remove mark_cmp_total hits m q) ∙ is) where
  of : (b : Bool) → cond b None (map.get hits q) ≡ Some v → map.get hits q ≡ Some v
  of true h = cc
  of false h = h

module _ (hits : Hits) (m : Mark) (q : List Part) (apart : same_key q m.key ≡ false) (t : ℕ) where
  abbrev less_one : Hits
  less_one = map.remove hits m

  abbrev beside_less : SameBeside hits less_one m.key
  beside_less = remove-beside hits m

  went : (slice_get (list_map key_of (drop (suc t) (order_of hits))) 0 ≡ Some q → ⊥) → (a b : Option Spot) → first_place hits m.key ≡ a → first_place less_one m.key ≡ b → listed hits less_one m.key q apart t beside_less less_one ≡ listed hits less_one m.key q apart t beside_less hits
  went ne None None a b = after-is hits less_one m.key q apart t beside_less None b ∙ sym (before-is hits less_one m.key q apart t beside_less None a)
  went ne None (Some g) a b =
      let at = first_is_hit less_one m.key g b in
      let both : Some at.0 ≡ None = sym (kept_hit hits m (mark g m.key) at.0 at.1) ∙ no_first hits m.key a g in
      cc
  went ne (Some f) None a b =
      after-is hits less_one m.key q apart t beside_less None b
      ∙ stands-went hits m.key q apart t f (first_some hits less_one m.key q apart t beside_less ne f a)
      ∙ sym (before-is hits less_one m.key q apart t beside_less (Some f) a)
  went ne (Some f) (Some g) a b =
      let at = first_is_hit less_one m.key g b in
      let after_it : spot_cmp g f ≡ Less → ⊥ = first_least hits m.key f g at.0 a (kept_hit hits m (mark g m.key) at.0 at.1) in
      after-is hits less_one m.key q apart t beside_less (Some g) b
      ∙ stands-behind hits m.key q apart t f g (first_some hits less_one m.key q apart t beside_less ne f a)
      (rank-le (order_without hits m.key) (mark f m.key) (mark g m.key) _ _ (order-at hits m.key q apart t f).1.0 (order-at hits m.key q apart t g).1.0 (λ h. marks_not_before g f m.key after_it (spot_cmp g f) refl h (tied_itself key_cmp_total m.key)))
      ∙ sym (before-is hits less_one m.key q apart t beside_less (Some f) a)

-- keys that aren't equal don't tie
apart_of : (q k : List Part) → (q ≡ k → ⊥) → same_key q k ≡ false
apart_of q k ne = by (same_key q k) refl where
  by : (b : Bool) → same_key q k ≡ b → b ≡ false
  by true same = absurd (ne (same_is q k same))
  by false same = refl

pub last_goes_out : LastGoesOut
last_goes_out table m v q other ne = sized table.size ne where
  sized : (s : ℕ) → (slice_get (list_map key_of (take s (order_of table.hits))) (length (list_map key_of (take s (order_of table.hits))) - 1) ≡ Some q → ⊥) → list_any (same_key q) (list_map key_of (take s (order_of (map.insert table.hits m v)))) ≡ list_any (same_key q) (list_map key_of (take s (order_of table.hits)))
  sized zero h = refl
  sized (suc t) h = came table.hits m v q (apart_of q m.key other) t h (first_place table.hits m.key) refl

pub first_comes_in : FirstComesIn
first_comes_in table m q other ne = sized table.size ne where
  sized : (s : ℕ) → (slice_get (list_map key_of (drop s (order_of table.hits))) 0 ≡ Some q → ⊥) → list_any (same_key q) (list_map key_of (take s (order_of (map.remove table.hits m)))) ≡ list_any (same_key q) (list_map key_of (take s (order_of table.hits)))
  sized zero h = refl
  sized (suc t) h = went table.hits m q (apart_of q m.key other) t h (first_place table.hits m.key) (first_place (map.remove table.hits m) m.key) refl refl

-- ---- whatever happens to the hits of one key

beside_of : (hits after : Hits) (key : List Part) → AreSameBut key hits after → SameBeside hits after key
beside_of hits after key same q apart = same q (λ e. let both : true ≡ false = sym (same_itself key) ∙ ap (λ (k : List Part). same_key k key) (sym e) ∙ apart in cc)

-- the key that stands in the way: at the table's edge among the others
edge_mark : List Part → Mark
edge_mark key = mark (traced (record { stamp = 0; cpu = 0; line = 0 })) key

pub one_other_moves : OneOtherMoves
one_other_moves table after key same = sized table.size where
  beside : SameBeside table.hits after key
  beside = beside_of table.hits after key same

  sized : (s : ℕ) → (other : List Part) × ((q : List Part) → (q ≡ key → ⊥) → (q ≡ other → ⊥) → list_any (same_key q) (list_map key_of (take s (order_of after))) ≡ list_any (same_key q) (list_map key_of (take s (order_of table.hits))))
  sized zero = (key, λ q ne other. refl)
  sized (suc t) = (
    (get_or (order_without table.hits key) t (edge_mark key)).key,
    λ q ne other.
        let apart : same_key q key ≡ false = apart_of q key ne in
        let not_at : NotAt table.hits key q apart t = λ d lt. ap (λ (m : Mark). same_key q m.key) (get_or_default (order_without table.hits key) t d (edge_mark key) lt) ∙ apart_of q _ other in
        let alike : (o : Option Spot) → stands table.hits key q apart t o ≡ stands table.hits key q apart t None = alike_of q apart t not_at in
        after-is table.hits after key q apart t beside (first_place after key) refl
        ∙ alike (first_place after key) ∙ sym (alike (first_place table.hits key))
        ∙ sym (before-is table.hits after key q apart t beside (first_place table.hits key) refl),
  ) where
    alike_of : (q : List Part) (apart : same_key q key ≡ false) (t : ℕ) → NotAt table.hits key q apart t → (o : Option Spot) → stands table.hits key q apart t o ≡ stands table.hits key q apart t None
    alike_of q apart t not_at None = refl
    alike_of q apart t not_at (Some b) = stands-came table.hits key q apart t not_at b
