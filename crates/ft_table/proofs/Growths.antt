-- What a hit after all others does to the keys in a table, their rows and the totals.
use Rattle.std.proofs.Common.{◌≡◌, ℕ, ◌+◌, ◌%◌, ◌^◌, Bool, true, false, cond, List, [], ◌∷◌, ◌++◌, length, refl, sym, ap, subst, ◌∙◌, arith, Some, None, Option, unwrap_or, length-append}
use Rattle.std.specs.Prelude.{ℤ, ◌||◌, ◌&&◌, if◌then◌else◌, is_some}
use Rattle.std.specs.List.{list_any, sum_by}
use Rattle.std.specs.Ordering.{eq_by_cmp}
use Rattle.std.specs.Map.{values_of}
use Rattle.std.specs.FinMap as map
use Rattle.std.specs.FinMap.{get-insert, get-retain_keys, len-insert, same_map}
use Rattle.ft_maps.proofs.Common.{and_false, cond_same}
use Rattle.ft_hits.specs.declared.spot.Spot.{Spot}
use Rattle.ft_hits.specs.Spots.{spot_cmp}
use Rattle.ft_fields.specs.declared.key.Part.{Part}
use Rattle.ft_fields.specs.Parts.{same_key}
use Rattle.ft_hits.specs.declared.mark.Mark.{Mark}
use Rattle.ft_table.specs.Counted.{Counted}
use Rattle.ft_hits.specs.Marks.{mark_cmp, mark_cmp_total, mark_same}
use Rattle.ft_hits.specs.Hits.{Hits, EntryHits, hits_of, hitcount, unsigned_at, column, sums_of, least_key, first_place}
use Rattle.ft_table.specs.Tabled.{Tabled, keys_in, keys_out, is_in}
use Rattle.ft_table.specs.Rows.{counted_row, row_at, totals_of}
use Rattle.ft_table.specs.Growth.{ComesLast, with_hit, has_room, is_counted, empty_row, grown, InGrows, RowsGrow, TotalsGrow}
use Rattle.ft_hits.proofs.Flat.{mark, is_equal, marks_tie, same_itself, same_is, get-hits_of}
use Rattle.ft_table.proofs.Firsts.{hits_of-beside, no_first}
use Rattle.ft_table.proofs.Changes.{insert-beside, hits_of-insert, count-insert, hitcount-none}
use Rattle.ft_hits.proofs.Columns.{column-more}
use Rattle.ft_table.proofs.Appends.{keys_grow, known}
use Rattle.ft_table.proofs.Tallies.{inside_count, whole_count}

-- ---- the keys in the table

any-push : {A : Type 0} (p : A → Bool) (xs : List A) (x : A) → list_any p (xs ++ x ∷ []) ≡ (list_any p xs || p x)
any-push p [] x = elim (p x) as (λ b. (b || false) ≡ b) [ true ↦ refl | false ↦ refl ]
any-push p (y ∷ ys) x = ap (λ b. p y || b) (any-push p ys x) ∙ elim (p y) as (λ b. (b || (list_any p ys || p x)) ≡ ((b || list_any p ys) || p x)) [ true ↦ refl | false ↦ refl ]

module _ (table : Tabled) (m : Mark) (v : List ℤ) (last : ComesLast table m) where
  keys : List (List Part)
  keys = keys_in table

  -- its own key
  here : (a b : Bool) → list_any (same_key m.key) (keys_in table) ≡ a → list_any (same_key m.key) (if a then keys_in table else if b then keys_in table ++ m.key ∷ [] else keys_in table) ≡ (a || b)
  here true b inside = inside
  here false true inside = any-push (same_key m.key) (keys_in table) m.key ∙ (λ i. inside i || same_itself m.key i)
  here false false inside = inside

  pub in-here : is_in (with_hit table m v) m.key ≡ is_counted table m.key
  in-here = ap (list_any (same_key m.key)) (keys_grow table m v last) ∙ here (is_in table m.key) (has_room table) refl

  -- and another
  beside : (key : List Part) (a b : Bool) → same_key key m.key ≡ false → list_any (same_key key) (if a then keys_in table else if b then keys_in table ++ m.key ∷ [] else keys_in table) ≡ is_in table key
  beside key true b apart = refl
  beside key false true apart = any-push (same_key key) (keys_in table) m.key ∙ ap (λ b. is_in table key || b) apart ∙ elim (is_in table key) as (λ b. (b || false) ≡ b) [ true ↦ refl | false ↦ refl ]
  beside key false false apart = refl

  pub in-beside : (key : List Part) → same_key key m.key ≡ false → is_in (with_hit table m v) key ≡ is_in table key
  in-beside key apart = ap (list_any (same_key key)) (keys_grow table m v last) ∙ beside key (is_in table m.key) (has_room table) apart

  in_grows_at : (key : List Part) (b : Bool) → same_key key m.key ≡ b → is_in (with_hit table m v) key ≡ (if b then is_counted table key else is_in table key)
  in_grows_at key true same = ap (is_in (with_hit table m v)) (same_is key m.key same) ∙ in-here ∙ ap (is_counted table) (sym (same_is key m.key same))
  in_grows_at key false apart = in-beside key apart

  -- if there is room, a key that is not in has no hits yet
  pub new_key : is_in table m.key ≡ false → has_room table ≡ true → first_place table.hits m.key ≡ None
  new_key out room = by (first_place table.hits m.key) refl where
    by : (o : Option Spot) → first_place table.hits m.key ≡ o → o ≡ None
    by None none = refl
    by (Some f) is = absurd (known table m f is out room)

pub in_grows : InGrows
in_grows table m v key last = in_grows_at table m v last key (same_key key m.key) refl

-- ---- rows

no_list : {X : Type 0} (es : List (Spot × X)) → least_key es ≡ None → es ≡ []
no_list [] is = refl
no_list (e ∷ es) is = cc

-- a key without hits has an empty row
row-none : (hits : Hits) (key : List Part) → first_place hits key ≡ None → counted_row hits key ≡ empty_row key
row-none hits key none =
    let es : map.entries (hits_of hits key) ≡ [] = no_list (map.entries (hits_of hits key)) none in
    let sum : (j : ℕ) → column j (hits_of hits key) ≡ 0 = λ j. ap (λ (es : List (Spot × List ℤ)). sum_by (unsigned_at j) (values_of es) % 2 ^ 64) es in
    let count : hitcount hits key ≡ 0 = hitcount-none hits key none in
    λ i. record { key = key; hitcount = count i; sums = sum 0 i ∷ sum 1 i ∷ sum 2 i ∷ [] }

row-more : (hits : Hits) (m : Mark) (v : List ℤ) → map.get hits m ≡ None → counted_row (map.insert hits m v) m.key ≡ grown v (counted_row hits m.key)
row-more hits m v absent =
    let entry : EntryHits = hits_of hits m.key in
    let free : map.get entry m.spot ≡ None = get-hits_of hits m.spot m.key ∙ absent in
    let sum : (j : ℕ) → column j (hits_of (map.insert hits m v) m.key) ≡ (column j entry + unsigned_at j v) % 2 ^ 64 =
    λ j. ap (column j) (hits_of-insert hits m v) ∙ sym (column-more j entry m.spot v (column j entry) ((column j entry + unsigned_at j v) % 2 ^ 64) free refl refl) in
    let count : hitcount (map.insert hits m v) m.key ≡ hitcount hits m.key + 1 = count-insert hits m v absent in
    λ i. record { key = m.key; hitcount = count i; sums = sum 0 i ∷ sum 1 i ∷ sum 2 i ∷ [] }

row-beside : (hits : Hits) (m : Mark) (v : List ℤ) (key : List Part) → same_key key m.key ≡ false → counted_row (map.insert hits m v) key ≡ counted_row hits key
row-beside hits m v key apart = ap (λ (es : EntryHits). let row : Counted = record { key = key; hitcount = map.len es; sums = sums_of es } in row) (hits_of-beside hits (map.insert hits m v) m.key key (insert-beside hits m v) apart)

module _ (table : Tabled) (m : Mark) (v : List ℤ) (last : ComesLast table m) where
  -- the row that grows
  before : (a b : Bool) → is_in table m.key ≡ a → has_room table ≡ b → (a || b) ≡ true → unwrap_or (if a then Some (counted_row table.hits m.key) else None) (empty_row m.key) ≡ counted_row table.hits m.key
  before true b inside room counted = refl
  before false true inside room counted = sym (row-none table.hits m.key (new_key table m v last inside room))
  before false false inside room counted = cc

  row-here : (c : Bool) → is_counted table m.key ≡ c → (if c then Some (counted_row (map.insert table.hits m v) m.key) else None) ≡ (if c then Some (grown v (unwrap_or (row_at table m.key) (empty_row m.key))) else row_at table m.key)
  row-here true counted = ap (λ (row : Counted). Some row) (row-more table.hits m v last.absent ∙ ap (grown v) (sym (before (is_in table m.key) (has_room table) refl refl counted)))
  row-here false counted = out (is_in table m.key) counted where
    out : (a : Bool) → (a || has_room table) ≡ false → ◌≡◌ {A = Option Counted} None (if a then Some (counted_row table.hits m.key) else None)
    out true counted = cc
    out false counted = refl

  rows_grow_at : (key : List Part) (b : Bool) → same_key key m.key ≡ b → row_at (with_hit table m v) key ≡ (if b && is_counted table key then Some (grown v (unwrap_or (row_at table key) (empty_row key))) else row_at table key)
  rows_grow_at key true same =
      subst (λ k. row_at (with_hit table m v) k ≡ (if is_counted table k then Some (grown v (unwrap_or (row_at table k) (empty_row k))) else row_at table k)) (sym (same_is key m.key same))
      (ap (λ b. if b then Some (counted_row (map.insert table.hits m v) m.key) else None) (in-here table m v last) ∙ row-here (is_counted table m.key) refl)
  rows_grow_at key false apart = λ i. if in-beside table m v last key apart i then Some (row-beside table.hits m v key apart i) else None

pub rows_grow : RowsGrow
rows_grow table m v key last = rows_grow_at table m v last key (same_key key m.key) refl

-- ---- totals

-- the hits that are counted
abbrev counted_hits : Tabled → Hits
counted_hits table = map.retain_keys table.hits (λ m. is_in table m.key)

get-counted : (table : Tabled) (q : Mark) → map.get (counted_hits table) q ≡ cond (is_in table q.key) (map.get table.hits q) None
get-counted table q = get-retain_keys table.hits (λ m. is_in table m.key) q (λ x tie. ap (λ (m : Mark). is_in table m.key) (sym (mark_same q x tie)))

module _ (table : Tabled) (m : Mark) (v : List ℤ) (last : ComesLast table m) where
  abbrev after : Tabled
  after = with_hit table m v

  -- if the hit is counted
  among : (c : is_counted table m.key ≡ true) (q : Mark) (tie same : Bool) → eq_by_cmp mark_cmp q m ≡ tie → same_key q.key m.key ≡ same
      → cond (is_in after q.key) (cond tie (Some v) (map.get table.hits q)) None ≡ cond tie (Some v) (cond (is_in table q.key) (map.get table.hits q) None)
  among c q true same tie is =
      ap (λ b. cond b (Some v) None) (ap (λ (x : Mark). is_in after x.key) (mark_same q m (is_equal _ tie)) ∙ in-here table m v last ∙ c)
  among c q false true tie is =
      ap (λ b. cond b (map.get table.hits q) None) (ap (is_in after) (same_is q.key m.key is) ∙ in-here table m v last ∙ c)
      ∙ old (is_in table m.key) (has_room table) refl refl c
      ∙ ap (λ k. cond (is_in table k) (map.get table.hits q) None) (sym (same_is q.key m.key is)) where
        old : (a b : Bool) → is_in table m.key ≡ a → has_room table ≡ b → (a || b) ≡ true → map.get table.hits q ≡ cond (is_in table m.key) (map.get table.hits q) None
        old true b inside room c = sym (ap (λ b. cond b (map.get table.hits q) None) inside)
        old false true inside room c =
            let none : map.get table.hits q ≡ None = ap (λ k. map.get table.hits (mark q.spot k)) (same_is q.key m.key is) ∙ no_first table.hits m.key (new_key table m v last inside room) q.spot in
            none ∙ sym (ap (λ b. cond b (map.get table.hits q) None) inside)
        old false false inside room c = cc
  among c q false false tie is = ap (λ b. cond b (map.get table.hits q) None) (in-beside table m v last q.key is)

  -- if it isn't
  apart : (c : is_counted table m.key ≡ false) (q : Mark) (tie same : Bool) → eq_by_cmp mark_cmp q m ≡ tie → same_key q.key m.key ≡ same → tie ≡ (eq_by_cmp spot_cmp q.spot m.spot && same)
      → cond (is_in after q.key) (cond tie (Some v) (map.get table.hits q)) None ≡ cond (is_in table q.key) (map.get table.hits q) None
  apart c q tie true at is both =
      ap (λ b. cond b (cond tie (Some v) (map.get table.hits q)) None) (ap (is_in after) (same_is q.key m.key is) ∙ in-here table m v last ∙ c)
      ∙ sym (ap (λ b. cond b (map.get table.hits q) None) (ap (is_in table) (same_is q.key m.key is) ∙ out (is_in table m.key) c)) where
        out : (a : Bool) → (a || has_room table) ≡ false → a ≡ false
        out true c = cc
        out false c = refl
  apart c q tie false at is both =
      (λ i. cond (in-beside table m v last q.key is i) (cond ((both ∙ and_false _) i) (Some v) (map.get table.hits q)) None)

  got : (q : Mark) → map.get (counted_hits after) q ≡ cond (is_in after q.key) (cond (eq_by_cmp mark_cmp q m) (Some v) (map.get table.hits q)) None
  got q = get-counted after q ∙ ap (λ o. cond (is_in after q.key) o None) (get-insert mark_cmp_total table.hits m v q)

  counted-more : is_counted table m.key ≡ true → counted_hits after ≡ map.insert (counted_hits table) m v
  counted-more c = same_map mark_cmp_total mark_same _ _ (λ q.
      got q ∙ among c q (eq_by_cmp mark_cmp q m) (same_key q.key m.key) refl refl
      ∙ sym (get-insert mark_cmp_total (counted_hits table) m v q ∙ ap (λ o. cond (eq_by_cmp mark_cmp q m) (Some v) o) (get-counted table q)))

  counted-same : is_counted table m.key ≡ false → counted_hits after ≡ counted_hits table
  counted-same c = same_map mark_cmp_total mark_same _ _ (λ q.
      got q ∙ apart c q (eq_by_cmp mark_cmp q m) (same_key q.key m.key) refl refl (marks_tie q m) ∙ sym (get-counted table q))

  abbrev hits_sum : Tabled → ℕ
  hits_sum t = sum_by (hitcount t.hits) (keys_in t)

  abbrev drops_sum : Tabled → ℕ
  drops_sum t = sum_by (hitcount t.hits) (keys_out t)

  hits-more : is_counted table m.key ≡ true → hits_sum after ≡ hits_sum table + 1
  hits-more c =
      let free : map.get (counted_hits table) m ≡ None = get-counted table m ∙ ap (λ o. cond (is_in table m.key) o None) last.absent ∙ cond_same (is_in table m.key) None in
      inside_count after ∙ ap map.len (counted-more c) ∙ len-insert mark_cmp_total (counted_hits table) m v
      ∙ ap (λ o. cond (is_some o) (map.len (counted_hits table)) (map.len (counted_hits table) + 1)) free
      ∙ ap (λ n. n + 1) (sym (inside_count table))

  hits-same : is_counted table m.key ≡ false → hits_sum after ≡ hits_sum table
  hits-same c = inside_count after ∙ ap map.len (counted-same c) ∙ sym (inside_count table)

  all-more : hits_sum after + drops_sum after ≡ hits_sum table + drops_sum table + 1
  all-more =
      whole_count after ∙ len-insert mark_cmp_total table.hits m v
      ∙ ap (λ o. cond (is_some o) (map.len table.hits) (map.len table.hits + 1)) last.absent
      ∙ ap (λ n. n + 1) (sym (whole_count table))

  totals_is : (h e d : ℕ) → hits_sum after ≡ h → length (keys_in after) ≡ e → drops_sum after ≡ d → totals_of after ≡ record { hits = h; entries = e; dropped = d }
  totals_is h e d hits entries dropped = λ i. record { hits = hits i; entries = entries i; dropped = dropped i }

  totals_at : (a b : Bool) → is_in table m.key ≡ a → has_room table ≡ b → totals_of after ≡ (let t = totals_of table in
      if a then record t { hits = t.hits + 1 }
      else if b then record t { hits = t.hits + 1; entries = t.entries + 1 }
      else record t { dropped = t.dropped + 1 })
  totals_at true b inside room =
      let hits : hits_sum after ≡ hits_sum table + 1 = hits-more (ap (λ a. a || has_room table) inside) in
      let keys : keys_in after ≡ keys_in table = keys_grow table m v last ∙ ap (λ a. if a then keys_in table else if has_room table then keys_in table ++ m.key ∷ [] else keys_in table) inside in
      let all = all-more in
      totals_is (hits_sum table + 1) (length (keys_in table)) (drops_sum table) hits (ap length keys) (omega arith)
  totals_at false true inside room =
      let hits : hits_sum after ≡ hits_sum table + 1 = hits-more (λ i. inside i || room i) in
      let keys : keys_in after ≡ keys_in table ++ m.key ∷ [] = keys_grow table m v last ∙ (λ i. if inside i then keys_in table else if room i then keys_in table ++ m.key ∷ [] else keys_in table) in
      let all = all-more in
      totals_is (hits_sum table + 1) (length (keys_in table) + 1) (drops_sum table) hits (ap length keys ∙ length-append (keys_in table) (m.key ∷ [])) (omega arith)
  totals_at false false inside room =
      let hits : hits_sum after ≡ hits_sum table = hits-same (λ i. inside i || room i) in
      let keys : keys_in after ≡ keys_in table = keys_grow table m v last ∙ (λ i. if inside i then keys_in table else if room i then keys_in table ++ m.key ∷ [] else keys_in table) in
      let all = all-more in
      totals_is (hits_sum table) (length (keys_in table)) (drops_sum table + 1) hits (ap length keys) (omega arith)

pub totals_grow : TotalsGrow
totals_grow table m v last = totals_at table m v last (is_in table m.key) (has_room table) refl refl
