-- Rows that are told one after the other, by key.
use Rattle.std.proofs.Common.{◌≡◌, ℕ, ◌+◌, Bool, true, false, cond, T, eq-eqb, List, [], ◌∷◌, ◌++◌, length, refl, sym, ap, subst, ◌∙◌, Option, Some, None, arith, append_assoc, append-nil, map, drop, get_or, ◌<◌, suc}
use Rattle.std.specs.Prelude.{is_some, not, nat_eq, ◌||◌, ◌&&◌}
use Rattle.std.specs.List.{filter, flat_map}
use Rattle.std.specs.declared.cmp.Ordering.{Ordering}
use Rattle.std.specs.declared.cmp.Ordering.TheVariants.{Less, Equal, Greater}
use Rattle.std.specs.Ordering.{eq_by_cmp, is_eq, is_lt}
use Rattle.std.specs.Str.{bytes_eq}
use Rattle.std.specs.Cmp.{eq_by_cmp_equiv}
use Rattle.std.specs.FinMap as finite
use Rattle.std.specs.FinMap.{FinMap, find, get-insert, get-remove, get-from_entries, get-entries, entries_sorted, same_map}
use Rattle.std.specs.FinMap.Entries.{is_sorted, below_all}
use Rattle.std.proofs.lemmas.Bool.{true≢false, eqb-true, or_right}
use Rattle.std.proofs.Math.Bool.{or-false}
use Rattle.std.proofs.Math.Seq.{drop-cons}
use Rattle.ft_changes.specs.declared.changed.Changed.{Changed}
use Rattle.ft_changes.specs.Reports.{is_reported}
use Rattle.ft_fields.specs.declared.key.Part.{Part}
use Rattle.ft_fields.specs.Parts.{key_cmp}
use Rattle.ft_fields.specs.Orders.{key_cmp_total}
use Rattle.ft_fields.specs.Ties.{key_same}
use Rattle.ft_maps.specs.Entries.{same_from_tie}
use Rattle.ft_watch.specs.ChangedRows.{Texts, signed_line, is_same_row, change_lines, differs, key_lines}
use Rattle.ft_watch.specs.inner.Told.{ChangedLines, with_row, with_table, with_text, AreAmong}
use Rattle.ft_watch.proofs.Same.{same_keys}

bytes_eq-refl : (text : List ℕ) → bytes_eq text text ≡ true
bytes_eq-refl [] = refl
bytes_eq-refl (byte ∷ bytes) = ap (λ b. b && bytes_eq bytes bytes) (eq-eqb byte byte refl) ∙ bytes_eq-refl bytes

found_either : {X : Type 0} (q : List Part) (xs ys : List (List Part × X)) → is_some (find key_cmp q (xs ++ ys)) ≡ (is_some (find key_cmp q xs) || is_some (find key_cmp q ys))
found_either q [] ys = refl
found_either q (x ∷ xs) ys =
    elim (eq_by_cmp key_cmp q x.0) as (λ b. is_some (cond b (Some x.1) (find key_cmp q (xs ++ ys))) ≡ (is_some (cond b (Some x.1) (find key_cmp q xs)) || is_some (find key_cmp q ys))) [
      | true ↦ refl
      | false ↦ found_either q xs ys
    ]

-- a look-up after a key's row was given a text, or taken away
pub get-with_text : (key : List Part) (text : Option (List ℕ)) (table : Texts) (q : List Part) → finite.get (with_text key text table) q ≡ cond (eq_by_cmp key_cmp q key) text (finite.get table q)
get-with_text key None table q = get-remove key_cmp_total table key q
get-with_text key (Some text) table q = get-insert key_cmp_total table key text q

sorted_rest : {X : Type 0} (e : List Part × X) (rest : List (List Part × X)) → T (is_sorted key_cmp (e ∷ rest)) → T (is_sorted key_cmp rest)
sorted_rest e rest sorted = second (below_all key_cmp e.0 rest) (is_sorted key_cmp rest) sorted
  where
    second : (a b : Bool) → T (a && b) → T b
    second true b h = h
    second false b h = absurd h

-- a key doesn't stand again after its place
not_again : {X : Type 0} (e : List Part × X) (rest : List (List Part × X)) → T (is_sorted key_cmp (e ∷ rest)) → find key_cmp e.0 rest ≡ None
not_again {X = X} e rest sorted = go rest (first (below_all key_cmp e.0 rest) (is_sorted key_cmp rest) sorted)
  where
    first : (a b : Bool) → T (a && b) → T a
    first true b h = tt
    first false b h = absurd h

    apart : (o : Ordering) → T (is_lt o) → is_eq o ≡ false
    apart Less h = refl
    apart Equal h = absurd h
    apart Greater h = refl

    go : (es : List (List Part × X)) → T (below_all key_cmp e.0 es) → find key_cmp e.0 es ≡ None
    go [] below = refl
    go (x ∷ es) below =
        ap (λ b. cond b (Some x.1) (find key_cmp e.0 es)) (apart (key_cmp e.0 x.0) (first (is_lt (key_cmp e.0 x.0)) (below_all key_cmp e.0 es) below))
        ∙ go es (second (is_lt (key_cmp e.0 x.0)) (below_all key_cmp e.0 es) below)
      where
        second : (a b : Bool) → T (a && b) → T b
        second true b h = h
        second false b h = absurd h

module _ (id : ℕ) (before now : Texts) where
  -- the rows of these keys are told, one after the other
  pub told_rows : List (List Part) → ChangedLines → ChangedLines
  told_rows [] told = told
  told_rows (key ∷ keys) told = told_rows keys (with_row id (finite.get before key) (finite.get now key) told)

  -- what is told of keys of which some differ
  abbrev told_of : List (List Part) → ChangedLines → ChangedLines
  told_of keys told = record { lines = told.lines ++ flat_map (key_lines id before now) keys; count = told.count + length keys }

  one_told : (key : List Part) (keys : List (List Part)) (told : ChangedLines) → told_of keys (with_row id (finite.get before key) (finite.get now key) told) ≡ told_of (cond (differs before now key) (key ∷ keys) keys) told
  one_told key keys told = by (is_same_row (finite.get before key) (finite.get now key)) refl
    where
      by : (b : Bool) → is_same_row (finite.get before key) (finite.get now key) ≡ b
          → told_of keys (cond b told (record { lines = told.lines ++ change_lines id (finite.get before key) (finite.get now key); count = told.count + 1 })) ≡ told_of (cond (not b) (key ∷ keys) keys) told
      by true is = refl
      by false is =
          let count : (told.count + 1) + length keys ≡ told.count + length (key ∷ keys) = omega arith in
          let lines = append_assoc told.lines (change_lines id (finite.get before key) (finite.get now key)) (flat_map (key_lines id before now) keys) in
          λ i. record { lines = lines i; count = count i }

  -- those that differ among them are told
  told_rows-is : (keys : List (List Part)) (told : ChangedLines) → told_rows keys told ≡ told_of (filter (differs before now) keys) told
  unfolding told_rows
  told_rows-is [] told =
      let count : told.count ≡ told.count + 0 = omega arith in
      let lines = sym (append-nil told.lines) in
      λ i. record { lines = lines i; count = count i }
  told_rows-is (key ∷ keys) told = told_rows-is keys _ ∙ one_told key (filter (differs before now) keys) told

  -- ---- which keys are looked at

  same_itself : (o : Option (List ℕ)) → is_same_row o o ≡ true
  same_itself None = refl
  same_itself (Some text) = bytes_eq-refl text

  differing : (o p : Option (List ℕ)) → not (is_same_row o p) ≡ true → (is_some o || is_some p) ≡ true
  differing None None differ = absurd (true≢false (sym differ))
  differing None (Some text) differ = refl
  differing (Some text) p differ = refl

  -- a key whose row differs has one before or now
  in_both : (q : List Part) → differs before now q ≡ true → is_some (finite.get (finite.from_entries {R = key_cmp} (finite.entries before ++ finite.entries now)) q) ≡ true
  in_both q differ =
      ap is_some (get-from_entries key_cmp_total (finite.entries before ++ finite.entries now) q)
      ∙ found_either q (finite.entries before) (finite.entries now)
      ∙ ap (λ o. is_some o || is_some (find key_cmp q (finite.entries now))) (sym (get-entries before q))
      ∙ ap (λ o. is_some (finite.get before q) || is_some o) (sym (get-entries now q))
      ∙ differing (finite.get before q) (finite.get now q) differ

  module _ (keys : FinMap key_cmp (Unit {0})) (among : AreAmong keys before now) where
    -- and is among the keys that all of them are among
    in_keys : (q : List Part) → differs before now q ≡ true → is_some (finite.get keys q) ≡ true
    in_keys q differ = by (finite.get keys q) refl
      where
        by : (o : Option (Unit {0})) → finite.get keys q ≡ o → is_some o ≡ true
        by (Some mark) is = refl
        by None is = absurd (true≢false (sym (ap (λ o. not (is_same_row (finite.get before q) o)) (sym (among q is)) ∙ differ) ∙ ap not (same_itself (finite.get before q))))

    -- the rows of keys that all that differ are among are told as the table's
    pub told_keys : (told : ChangedLines) → told_rows (finite.keys keys) told ≡ with_table id before now told
    told_keys told =
        told_rows-is (finite.keys keys) told
        ∙ ap (λ (ks : List (List Part)). told_of ks told) (same_keys key_cmp_total key_same (differs before now) keys (finite.from_entries {R = key_cmp} (finite.entries before ++ finite.entries now)) in_keys in_both)

  -- ---- keys that are left, while the table takes the rows that it has now

  -- the keys that are left have the rows of before, and all others those of now
  pub record Telling (keys : FinMap key_cmp (Unit {0})) (left : List (List Part × Unit {0})) (rows : Texts) (so_far start : ChangedLines) : Type 0 where
    pub told : told_rows (map (λ e. e.0) left) so_far ≡ told_rows (finite.keys keys) start
    pub table : (q : List Part) → finite.get rows q ≡ cond (is_some (find key_cmp q left)) (finite.get before q) (finite.get now q)
    pub sorted : T (is_sorted key_cmp left)

  pub telling_all : (keys : FinMap key_cmp (Unit {0})) → AreAmong keys before now → (start : ChangedLines) → Telling keys (finite.entries keys) before start start
  telling_all keys among start = record { told = refl; table = λ q. by q (finite.get keys q) refl; sorted = entries_sorted keys }
    where
      by : (q : List Part) (o : Option (Unit {0})) → finite.get keys q ≡ o → finite.get before q ≡ cond (is_some (find key_cmp q (finite.entries keys))) (finite.get before q) (finite.get now q)
      by q (Some mark) is = sym (ap (λ o. cond (is_some o) (finite.get before q) (finite.get now q)) (sym (get-entries keys q) ∙ is))
      by q None is = sym (among q is) ∙ sym (ap (λ o. cond (is_some o) (finite.get before q) (finite.get now q)) (sym (get-entries keys q) ∙ is))

  module _ (keys : FinMap key_cmp (Unit {0})) (e : List Part × Unit {0}) (rest : List (List Part × Unit {0})) (table : Texts) (told start : ChangedLines) (t : Telling keys (e ∷ rest) table told start) where
    -- the next key has still the row of before
    pub next_row : finite.get table e.0 ≡ finite.get before e.0
    next_row = t.table e.0 ∙ ap (λ b. cond (is_some (cond b (Some e.1) (find key_cmp e.0 rest))) (finite.get before e.0) (finite.get now e.0)) ((eq_by_cmp_equiv key_cmp_total).refl e.0)

    -- its row is told and taken
    pub telling_more : Telling keys rest (with_text e.0 (finite.get now e.0) table) (with_row id (finite.get table e.0) (finite.get now e.0) told) start
    unfolding told_rows
    telling_more = record {
      told = ap (λ o. told_rows (map (λ e. e.0) rest) (with_row id o (finite.get now e.0) told)) next_row ∙ t.told;
      table = λ q. get-with_text e.0 (finite.get now e.0) table q ∙ by q (eq_by_cmp key_cmp q e.0) refl;
      sorted = sorted_rest e rest t.sorted;
    }
      where
        by : (q : List Part) (b : Bool) → eq_by_cmp key_cmp q e.0 ≡ b → cond b (finite.get now e.0) (finite.get table q) ≡ cond (is_some (find key_cmp q rest)) (finite.get before q) (finite.get now q)
        by q true tie =
            let one : q ≡ e.0 = same_from_tie key_same q e.0 tie in
            subst (λ (x : List Part). finite.get now e.0 ≡ cond (is_some (find key_cmp x rest)) (finite.get before x) (finite.get now x)) (sym one)
            (sym (ap (λ o. cond (is_some o) (finite.get before e.0) (finite.get now e.0)) (not_again e rest t.sorted)))
        by q false apart = t.table q ∙ ap (λ b. cond (is_some (cond b (Some e.1) (find key_cmp q rest))) (finite.get before q) (finite.get now q)) apart

  -- if no key is left, the table has the rows that it has now, and all keys are told
  pub telling_none : (keys : FinMap key_cmp (Unit {0})) (left : List (List Part × Unit {0})) (table : Texts) (told start : ChangedLines) → left ≡ [] → AreAmong keys before now → Telling keys left table told start
      → (table ≡ now) × (told ≡ with_table id before now start)
  unfolding told_rows
  telling_none keys left table told start none among t = (
    same_map key_cmp_total key_same table now (λ q. t.table q ∙ ap (λ (l : List (List Part × Unit {0})). cond (is_some (find key_cmp q l)) (finite.get before q) (finite.get now q)) none),
    ap (λ (l : List (List Part × Unit {0})). told_rows (map (λ e. e.0) l) told) (sym none) ∙ t.told ∙ told_keys keys among start,
  )

-- the lines of a row that differs are added
pub row_added : (id : ℕ) (before now : Option (List ℕ)) (told : ChangedLines) (lines : List ℕ) → is_same_row before now ≡ false → lines ≡ (told.lines ++ signed_line 45 id before) ++ signed_line 43 id now
    → record { lines = lines; count = told.count + 1 } ≡ with_row id before now told
unfolding change_lines
row_added id before now told lines differ is =
    let both = signed_line 45 id before ++ signed_line 43 id now in
    let text : change_lines id before now ≡ both = ap (λ b. cond b [] both) differ in
    let all : lines ≡ told.lines ++ change_lines id before now = is ∙ append_assoc told.lines (signed_line 45 id before) (signed_line 43 id now) ∙ ap (λ t. told.lines ++ t) (sym text) in
    let row : ChangedLines = record { lines = told.lines ++ change_lines id before now; count = told.count + 1 } in
    (λ i. record { lines = all i; count = told.count + 1 }) ∙ sym (ap (λ b. cond b told row) differ)

-- ---- the next of some keys

module _ {X : Type 0} (id : ℕ) (before now : Texts) (e : List Part × X) (es rest : List (List Part × X)) (first : es ≡ e ∷ rest) where
  -- its row is told
  pub rows_more : (told new all : ChangedLines) → new ≡ with_row id (finite.get before e.0) (finite.get now e.0) told → told_rows id before now (map (λ e. e.0) es) told ≡ all → told_rows id before now (map (λ e. e.0) rest) new ≡ all
  unfolding told_rows
  rows_more told new all is so_far =
      ap (told_rows id before now (map (λ e. e.0) rest)) is
      ∙ sym (ap (λ (l : List (List Part × X)). told_rows id before now (map (λ e. e.0) l) told) first) ∙ so_far

pub rows_at_last : {X : Type 0} (id : ℕ) (before now : Texts) (es : List (List Part × X)) (told all : ChangedLines) → es ≡ [] → told_rows id before now (map (λ e. e.0) es) told ≡ all → told ≡ all
unfolding told_rows
rows_at_last {X = X} id before now es told all none so_far = sym (ap (λ (l : List (List Part × X)). told_rows id before now (map (λ e. e.0) l) told) none) ∙ so_far

-- ---- sets of keys

abbrev pub Keys : Type 0
Keys = FinMap key_cmp (Unit {0})

module _ {X : Type 0} where
  -- a key that is put in is among those that are there, and no more among those that are left
  pub key_moves : (keys new : Keys) (e : List Part × X) (es rest : List (List Part × X)) → es ≡ e ∷ rest → new ≡ finite.insert keys e.0 tt
      → (q : List Part) → (is_some (finite.get new q) || is_some (find key_cmp q rest)) ≡ (is_some (finite.get keys q) || is_some (find key_cmp q es))
  key_moves keys new e es rest first is q =
      ap (λ (m : Keys). is_some (finite.get m q) || is_some (find key_cmp q rest)) is
      ∙ ap (λ o. is_some o || is_some (find key_cmp q rest)) (get-insert key_cmp_total keys e.0 tt q)
      ∙ by (eq_by_cmp key_cmp q e.0) (finite.get keys q)
      ∙ ap (λ (l : List (List Part × X)). is_some (finite.get keys q) || is_some (find key_cmp q l)) (sym first)
    where
      by : (b : Bool) (o : Option (Unit {0})) → (is_some (cond b (Some tt) o) || is_some (find key_cmp q rest)) ≡ (is_some o || is_some (cond b (Some e.1) (find key_cmp q rest)))
      by true o = sym (or_right (is_some o) true refl)
      by false o = refl

  -- if none is left, all are there
  pub keys_at_last : (keys : Keys) (es : List (List Part × X)) → es ≡ [] → (q : List Part) → is_some (finite.get keys q) ≡ (is_some (finite.get keys q) || is_some (find key_cmp q es))
  keys_at_last keys es none q = sym (or-false (is_some (finite.get keys q))) ∙ ap (λ (l : List (List Part × X)). is_some (finite.get keys q) || is_some (find key_cmp q l)) (sym none)

-- a row of the trigger moves its key, and another row none
row_of : (rows : List Changed) (i : ℕ) (row : Changed) → i < length rows → row ≡ get_or rows i row → drop i rows ≡ row ∷ drop (i + 1) rows
row_of rows i row within is = drop-cons rows i row within ∙ ap (λ (r : Changed). r ∷ drop (suc i) rows) (sym is) ∙ ap (λ (n : ℕ). row ∷ drop n rows) (one_more i)
  where
    one_more : (n : ℕ) → suc n ≡ n + 1
    one_more n = omega arith

module _ (keys new : Keys) (rows : List Changed) (i id : ℕ) (row : Changed) (within : i < length rows) (is : row ≡ get_or rows i row) where
  pub named_moves : nat_eq id row.id ≡ true → new ≡ finite.insert keys row.key tt
      → (q : List Part) → (is_some (finite.get new q) || is_reported (drop (i + 1) rows) id q) ≡ (is_some (finite.get keys q) || is_reported (drop i rows) id q)
  named_moves same put q =
      ap (λ (m : Keys). is_some (finite.get m q) || is_reported (drop (i + 1) rows) id q) put
      ∙ ap (λ o. is_some o || is_reported (drop (i + 1) rows) id q) (get-insert key_cmp_total keys row.key tt q)
      ∙ by (eq_by_cmp key_cmp q row.key) (finite.get keys q)
      ∙ ap (λ b. is_some (finite.get keys q) || ((b && eq_by_cmp key_cmp q row.key) || is_reported (drop (i + 1) rows) id q)) (sym same)
      ∙ ap (λ (l : List Changed). is_some (finite.get keys q) || is_reported l id q) (sym (row_of rows i row within is))
    where
      by : (b : Bool) (o : Option (Unit {0})) → (is_some (cond b (Some tt) o) || is_reported (drop (i + 1) rows) id q) ≡ (is_some o || ((true && b) || is_reported (drop (i + 1) rows) id q))
      by true o = sym (or_right (is_some o) true refl)
      by false o = refl

  pub others_stay : nat_eq id row.id ≡ false → (q : List Part) → (is_some (finite.get keys q) || is_reported (drop (i + 1) rows) id q) ≡ (is_some (finite.get keys q) || is_reported (drop i rows) id q)
  others_stay apart q =
      ap (λ b. is_some (finite.get keys q) || ((b && eq_by_cmp key_cmp q row.key) || is_reported (drop (i + 1) rows) id q)) (sym apart)
      ∙ ap (λ (l : List Changed). is_some (finite.get keys q) || is_reported l id q) (sym (row_of rows i row within is))

-- numbers that differ are told apart
pub told_apart : (a b : ℕ) → (a ≡ b → ⊥) → nat_eq a b ≡ false
told_apart a b apart = by (nat_eq a b) refl
  where
    by : (t : Bool) → nat_eq a b ≡ t → nat_eq a b ≡ false
    by true is = absurd (apart (eqb-true a b is))
    by false is = is
