-- A hit after all others.
use Rattle.std.proofs.Common.{◌≡◌, ℕ, zero, suc, ◌<◌, ◌≤◌, Bool, true, false, cond, List, [], ◌∷◌, ◌++◌, length, get_or, take, map as list_map, refl, sym, ap, subst, ◌∙◌, arith, nat_lt, Some, None, Option, IsSome, inl, inr, length-append}
use Rattle.std.specs.Prelude.{ℤ, if◌then◌else◌, is_some}
use Rattle.std.specs.List.{insert, list_any}
use Rattle.std.specs.declared.cmp.Ordering.{Ordering}
use Rattle.std.specs.declared.cmp.Ordering.TheVariants.{Less, Equal, Greater}
use Rattle.std.specs.Ordering.{ordering_reverse, ordering_then}
use Rattle.std.specs.FinMap as map
use Rattle.std.specs.FinMap.{FinMap, put, entries-insert}
use Rattle.std.proofs.lemmas.Bool.{cases_lt, ltb-true, ltb-false}
use Rattle.std.proofs.lemmas.Bool.Decides.{nat_tests}
use Rattle.std.proofs.lemmas.Cmp.{tied_itself}
use Rattle.std.proofs.lemmas.List.Edits.{insert_end}
use Rattle.ft_hits.specs.declared.spot.Spot.{Spot}
use Rattle.ft_fields.specs.declared.key.Part.{Part}
use Rattle.ft_fields.specs.Parts.{key_cmp, same_key}
use Rattle.ft_hits.specs.declared.mark.Mark.{Mark}
use Rattle.ft_hits.specs.Spots.{spot_cmp, spot_cmp_total}
use Rattle.ft_hits.specs.Marks.{mark_cmp, mark_cmp_total}
use Rattle.ft_table.specs.inner.Ascending.{IsRank}
use Rattle.ft_hits.specs.Hits.{Hits, hits_of, least_key, first_place}
use Rattle.ft_table.specs.Tabled.{Tabled, is_first, first_hits, order_of, keys_in, is_in}
use Rattle.ft_table.specs.inner.Moves.{order_without, order_with, others}
use Rattle.ft_table.specs.Growth.{AreBefore, with_hit, KeysGrow}
use Rattle.ft_fields.specs.Orders.{key_cmp_total}
use Rattle.ft_hits.proofs.Flat.{mark}
use Rattle.ft_table.proofs.Firsts.{first_is_hit, get-first_hits, order-none, order-some, order-enter, order-found}
use Rattle.ft_table.proofs.Changes.{insert-beside, hits_of-insert, order_before-beside}
use Rattle.ft_table.proofs.Counts.{listed}
use Rattle.ft_table.proofs.Members.{in-without, in-with}
use Rattle.ft_table.proofs.Sorted.{rank-end, rank-keys}

-- of two marks with one key the place decides
earlier : (a b : Spot) (key : List Part) → mark_cmp (mark a key) (mark b key) ≡ Less → spot_cmp a b ≡ Less
earlier a b key less =
    let tie : key_cmp key key ≡ Equal = tied_itself key_cmp_total key in
    only (spot_cmp a b) (key_cmp key key) tie less where
      only : (r s : Ordering) → s ≡ Equal → ordering_then r s ≡ Less → r ≡ Less
      only Less s tie h = refl
      only Equal s tie h = cc
      only Greater s tie h = cc

-- the first place of an entry, as one is put in
pub first-empty : (p : Spot) (v : List ℤ) (es : List (Spot × List ℤ)) → least_key es ≡ None → least_key (put spot_cmp p v es) ≡ Some p
first-empty p v [] none = refl
first-empty p v (e ∷ es) none = cc

first-later : (p f : Spot) (v : List ℤ) (es : List (Spot × List ℤ)) → least_key es ≡ Some f → spot_cmp p f ≡ Greater → least_key (put spot_cmp p v es) ≡ Some f
first-later p f v [] is after = cc
first-later p f v (e ∷ es) is after =
    let same : e.0 ≡ f = cc in
    ap (λ o. least_key (map.Entries.by_order o ((p, v) ∷ e ∷ es) ((e.0, v) ∷ es) (e ∷ put spot_cmp p v es))) (ap (spot_cmp p) same ∙ after) ∙ is

pub first_place-insert : (hits : Hits) (m : Mark) (v : List ℤ) → first_place (map.insert hits m v) m.key ≡ least_key (put spot_cmp m.spot v (map.entries (hits_of hits m.key)))
first_place-insert hits m v = ap (λ (l : FinMap spot_cmp (List ℤ)). least_key (map.entries l)) (hits_of-insert hits m v) ∙ ap least_key (entries-insert spot_cmp_total (hits_of hits m.key) m.spot v)

some_has : {X : Type 0} (o : Option X) (x : X) → o ≡ Some x → IsSome o
some_has o x is = ap is_some is

-- a hit after its key's first leaves the order
pub order-behind : (hits : Hits) (m : Mark) (v : List ℤ) (f : Spot) → first_place hits m.key ≡ Some f → spot_cmp f m.spot ≡ Less → order_of (map.insert hits m v) ≡ order_of hits
order-behind hits m v f is less =
    let turned : spot_cmp m.spot f ≡ Greater = spot_cmp_total.antisymm m.spot f ∙ ap ordering_reverse less in
    let first : first_place (map.insert hits m v) m.key ≡ Some f = first_place-insert hits m v ∙ first-later m.spot f v (map.entries (hits_of hits m.key)) is turned in
    order-some (map.insert hits m v) m.key f first ∙ order_before-beside hits (map.insert hits m v) m.key (Some f) (insert-beside hits m v) ∙ sym (order-some hits m.key f is)

-- so does a known key's hit after all others
pub order-known : (hits : Hits) (m : Mark) (v : List ℤ) (f : Spot) → first_place hits m.key ≡ Some f → AreBefore hits m → order_of (map.insert hits m v) ≡ order_of hits
order-known hits m v f is before =
    let at = first_is_hit hits m.key f is in
    order-behind hits m v f is (earlier f m.spot m.key (before (mark f m.key) (some_has _ at.0 at.1)))

-- whatever is first is a hit
pub first_hits-hit : (hits : Hits) (q : Mark) → is_some (map.get (first_hits hits) q) ≡ true → is_some (map.get hits q) ≡ true
first_hits-hit hits q some = of (is_first hits q) (ap is_some (sym (get-first_hits hits q)) ∙ some) where
  of : (b : Bool) → is_some (cond b (map.get hits q) None) ≡ true → is_some (map.get hits q) ≡ true
  of true h = h
  of false h = cc

-- a new key's hit after all others comes last
pub order-new : (hits : Hits) (m : Mark) (v : List ℤ) → first_place hits m.key ≡ None → AreBefore hits m → order_of (map.insert hits m v) ≡ order_of hits ++ m ∷ []
order-new hits m v none before =
    let after : Hits = map.insert hits m v in
    let first : first_place after m.key ≡ Some m.spot = first_place-insert hits m v ∙ first-empty m.spot v (map.entries (hits_of hits m.key)) none in
    let rest : order_of hits ≡ order_without hits m.key = order-none hits m.key none in
    let last : IsRank mark_cmp (order_of hits) m (length (order_of hits)) = rank-end mark_cmp (order_of hits) m (λ j d lt. before (get_or (order_of hits) j d) (first_hits-hit hits _ (listed (first_hits hits) j d lt))) in
    order-some after m.key m.spot first ∙ order_before-beside hits after m.key (Some m.spot) (insert-beside hits m v)
    ∙ order-enter hits m (length (order_of hits)) (subst (λ ms. IsRank mark_cmp ms m (length (order_of hits))) rest last)
    ∙ ap (λ (ms : List Mark). insert ms (length (order_of hits)) m) (sym rest) ∙ insert_end (order_of hits) m

module _ {X Y : Type 0} (f : X → Y) where
  length-mapped : (xs : List X) → length (list_map f xs) ≡ length xs
  length-mapped [] = refl
  length-mapped (x ∷ xs) = ap suc (length-mapped xs)

  take-few : (xs : List X) (s : ℕ) → length xs ≤ s → take s xs ≡ xs
  take-few [] zero le = refl
  take-few [] (suc s) le = refl
  take-few (x ∷ xs) zero le = absurd (omega arith)
  take-few (x ∷ xs) (suc s) le = ap (λ (ys : List X). x ∷ ys) (take-few xs s (omega arith))

  take-front : (xs : List X) (x : X) (s : ℕ) → s ≤ length xs → take s (xs ++ x ∷ []) ≡ take s xs
  take-front [] x zero le = refl
  take-front [] x (suc s) le = absurd (omega arith)
  take-front (y ∷ ys) x zero le = refl
  take-front (y ∷ ys) x (suc s) le = ap (λ (ys : List X). y ∷ ys) (take-front ys x s (omega arith))

  pub length-taken : (xs : List X) (s : ℕ) → s ≤ length xs → length (list_map f (take s xs)) ≡ s
  length-taken [] zero le = refl
  length-taken [] (suc s) le = absurd (omega arith)
  length-taken (x ∷ xs) zero le = refl
  length-taken (x ∷ xs) (suc s) le = ap suc (length-taken xs s (omega arith))

  map-push : (xs : List X) (x : X) → list_map f (xs ++ x ∷ []) ≡ list_map f xs ++ f x ∷ []
  map-push [] x = refl
  map-push (y ∷ ys) x = ap (λ (ys : List Y). f y ∷ ys) (map-push ys x)

  -- there is room exactly if the list is short
  pub room : (xs : List X) (s : ℕ) → nat_lt (length (list_map f (take s xs))) s ≡ nat_lt (length xs) s
  room xs s = elim (cases_lt (length xs) s) [
    | inl lt ↦ ap (λ n. nat_lt n s) (ap length (ap (list_map f) (take-few xs s (omega arith))) ∙ length-mapped xs)
    | inr le ↦
        let full : nat_lt (length xs) s ≡ false = grind (arith, nat_tests, le) in
        let same : nat_lt s s ≡ false = grind (arith, nat_tests) in
        ap (λ n. nat_lt n s) (length-taken xs s le) ∙ same ∙ sym full
  ]

  take-push : (xs : List X) (x : X) (s : ℕ) (b : Bool) → nat_lt (length xs) s ≡ b → list_map f (take s (xs ++ x ∷ [])) ≡ (if b then list_map f (take s xs) ++ f x ∷ [] else list_map f (take s xs))
  take-push xs x s true is =
      let lt : length xs < s = ltb-true (length xs) s is in
      ap (list_map f) (take-few (xs ++ x ∷ []) s (omega (arith, length-append xs (x ∷ [])))) ∙ map-push xs x ∙ ap (λ (ys : List X). list_map f ys ++ f x ∷ []) (sym (take-few xs s (omega arith)))
  take-push xs x s false is = ap (list_map f) (take-front xs x s (ltb-false (length xs) s is))

-- a key with hits is in if there is room
pub known : (tabled : Tabled) (m : Mark) (f : Spot) → first_place tabled.hits m.key ≡ Some f → is_in tabled m.key ≡ false → nat_lt (length (keys_in tabled)) tabled.size ≡ true → ⊥
known tabled m f is out few =
    let at : Mark = mark f m.key in
    let rank = rank-keys mark_cmp_total (map.insert (others tabled.hits m.key) at []) at in
    let order : order_of tabled.hits ≡ order_with tabled.hits at = order-some tabled.hits m.key f is in
    let found = order-found tabled.hits at rank.0 rank.1 in
    let length_of : length (order_of tabled.hits) ≡ length (order_with tabled.hits at) = ap length order in
    let short : length (order_of tabled.hits) < tabled.size = ltb-true _ _ (sym (room (λ (m : Mark). m.key) (order_of tabled.hits) tabled.size) ∙ few) in
    let isin : is_in tabled m.key ≡ nat_lt rank.0 tabled.size = ap (λ (ms : List Mark). list_any (same_key m.key) (list_map (λ m. m.key) (take tabled.size ms))) order ∙ in-with tabled.hits tabled.size at rank.0 rank.1 in
    let inside : nat_lt rank.0 tabled.size ≡ true = let lt : rank.0 < tabled.size = omega (arith, found.0) in grind (arith, nat_tests, lt) in
    let both : true ≡ false = sym inside ∙ sym isin ∙ out in
    cc

pub keys_grow : KeysGrow
keys_grow tabled m v last = by (first_place tabled.hits m.key) refl where
  key : Mark → List Part
  key m = m.key

  by : (o : Option Spot) → first_place tabled.hits m.key ≡ o → keys_in (with_hit tabled m v) ≡ (if is_in tabled m.key then keys_in tabled else if nat_lt (length (keys_in tabled)) tabled.size then keys_in tabled ++ m.key ∷ [] else keys_in tabled)
  by None none =
      let out : is_in tabled m.key ≡ false = ap (λ (ms : List Mark). list_any (same_key m.key) (list_map (λ m. m.key) (take tabled.size ms))) (order-none tabled.hits m.key none) ∙ in-without tabled.hits tabled.size m.key in
      ap (λ (ms : List Mark). list_map (λ m. m.key) (take tabled.size ms)) (order-new tabled.hits m v none last.last)
      ∙ take-push (λ (m : Mark). m.key) (order_of tabled.hits) m tabled.size (nat_lt (length (order_of tabled.hits)) tabled.size) refl
      ∙ ap (λ b. if b then keys_in tabled ++ m.key ∷ [] else keys_in tabled) (sym (room (λ (m : Mark). m.key) (order_of tabled.hits) tabled.size))
      ∙ ap (λ b. if b then keys_in tabled else if nat_lt (length (keys_in tabled)) tabled.size then keys_in tabled ++ m.key ∷ [] else keys_in tabled) (sym out)
  by (Some f) is =
      ap (λ (ms : List Mark). list_map (λ m. m.key) (take tabled.size ms)) (order-known tabled.hits m v f is last.last)
      ∙ same (is_in tabled m.key) (nat_lt (length (keys_in tabled)) tabled.size) refl refl where
        same : (a b : Bool) → is_in tabled m.key ≡ a → nat_lt (length (keys_in tabled)) tabled.size ≡ b → keys_in tabled ≡ (if a then keys_in tabled else if b then keys_in tabled ++ m.key ∷ [] else keys_in tabled)
        same true b isin few = refl
        same false true out few = absurd (known tabled m f is out few)
        same false false out few = refl
