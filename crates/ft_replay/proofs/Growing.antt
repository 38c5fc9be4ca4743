-- The tally of a table, as hits come after all others.
use Rattle.std.proofs.Common.{◌≡◌, ℕ, zero, suc, take, drop, ◌+◌, Bool, true, false, cond, List, [], ◌∷◌, length, map as list_map, refl, sym, ap, ◌∙◌, Some, None, Option, arith, nat_lt, unwrap_or}
use Rattle.std.specs.Prelude.{ℤ, ◌||◌, ◌&&◌, if◌then◌else◌, is_some}
use Rattle.std.specs.List.{AllByRecursion, IsDistinct, list_any, sum_by}
use Rattle.std.specs.FinMap as map
use Rattle.std.specs.FinMap.{find, get-empty, get-from_entries, get-insert, len-insert, len-empty, same_map}
use Rattle.ft_fields.specs.declared.pos.Pos.{Pos}
use Rattle.ft_fields.specs.declared.key.Part.{Part}
use Rattle.ft_fields.specs.Parts.{key_cmp, same_key}
use Rattle.ft_fields.specs.Orders.{key_cmp_total}
use Rattle.ft_fields.specs.Ties.{key_same}
use Rattle.ft_maps.specs.Entries.{same_from_tie, entries-empty}
use Rattle.ft_maps.proofs.Common.{and_true, and_false, cond_same}
use Rattle.ft_hits.specs.declared.mark.Mark.{Mark}
use Rattle.ft_hits.proofs.Flat.{same_itself}
use Rattle.ft_table.specs.declared.row.Totals.{Totals}
use Rattle.ft_table.specs.Counted.{Counted}
use Rattle.ft_table.specs.Growth.{ComesLast, with_hit, has_room, is_counted, empty_row, grown, InGrows, RowsGrow, TotalsGrow}
use Rattle.ft_table.specs.Hits.{Hits, hitcount}
use Rattle.ft_table.specs.Marks.{mark_cmp, mark_cmp_total, mark_same}
use Rattle.ft_table.specs.Rows.{counted_row, row_at, totals_of}
use Rattle.ft_table.specs.Tabled.{Tabled, is_first, first_hits, order_of, keys_in, is_in}
use Rattle.ft_replay.specs.declared.pair.Pair.{Pair}
use Rattle.ft_replay.specs.Tally.{RowsByKey, Tally, empty_tally, has_place, count, with_pair, tally_of}
use Rattle.ft_table.proofs.Distinct.{keys_distinct}
use Rattle.ft_table.proofs.Firsts.{get-first_hits}
pub use Rattle.ft_replay.specs.inner.Replaying.{pairs_with}
use Rattle.ft_replay.proofs.Counted.{grow}

-- ---- the rows of a table by key

-- each key with its row
abbrev pub rowed : Hits → List (List Part) → List (List Part × Counted)
rowed hits keys = list_map (λ key. (key, counted_row hits key)) keys

-- the rows of some keys
abbrev pub rows_by : Hits → List (List Part) → RowsByKey
rows_by hits keys = map.from_entries (rowed hits keys)

find-rowed : (hits : Hits) (q : List Part) (keys : List (List Part)) → find key_cmp q (rowed hits keys) ≡ cond (list_any (same_key q) keys) (Some (counted_row hits q)) None
find-rowed hits q [] = refl
find-rowed hits q (key ∷ keys) = from (same_key q key) refl (find-rowed hits q keys)
  where
    from : (b : Bool) → same_key q key ≡ b → find key_cmp q (rowed hits keys) ≡ cond (list_any (same_key q) keys) (Some (counted_row hits q)) None → cond b (Some (counted_row hits key)) (find key_cmp q (rowed hits keys)) ≡ cond (b || list_any (same_key q) keys) (Some (counted_row hits q)) None
    from true tie rest = ap (λ k. Some (counted_row hits k)) (sym (same_from_tie key_same q key tie))
    from false apart rest = rest

pub get-rows_by : (hits : Hits) (keys : List (List Part)) (q : List Part) → map.get (rows_by hits keys) q ≡ cond (list_any (same_key q) keys) (Some (counted_row hits q)) None
get-rows_by hits keys q = get-from_entries key_cmp_total (rowed hits keys) q ∙ find-rowed hits q keys

some_where : {X : Type 0} (b : Bool) (x : X) → is_some (cond b (Some x) None) ≡ b
some_where true x = refl
some_where false x = refl

none_any : (q : List Part) (keys : List (List Part)) → AllByRecursion (λ key. same_key q key ≡ false) keys → list_any (same_key q) keys ≡ false
none_any q [] h = refl
none_any q (key ∷ keys) h = (λ i. h.0 i || none_any q keys h.1 i)

-- a key apart from these has no row among theirs
pub no_row : (hits : Hits) (q : List Part) (keys : List (List Part)) → AllByRecursion (λ key. same_key q key ≡ false) keys → map.get (rows_by hits keys) q ≡ None
no_row hits q keys h = get-rows_by hits keys q ∙ ap (λ b. cond b (Some (counted_row hits q)) None) (none_any q keys h)

len-rows_by : (hits : Hits) (keys : List (List Part)) → IsDistinct same_key keys → map.len (rows_by hits keys) ≡ length keys
unfolding IsDistinct
len-rows_by hits [] apart = len-empty key_cmp Counted
len-rows_by hits (key ∷ keys) apart =
    len-insert key_cmp_total (rows_by hits keys) key (counted_row hits key)
    ∙ ap (λ (o : Option Counted). cond (is_some o) (map.len (rows_by hits keys)) (map.len (rows_by hits keys) + 1)) (no_row hits key keys apart.0)
    ∙ ap (λ n. n + 1) (len-rows_by hits keys apart.1) ∙ omega arith

-- ---- what a table's tally answers

module _ (table : Tabled) (pairs : List Pair) where
  -- a key's row in the tally is its row in the table
  pub get-tally : (key : List Part) → map.get (tally_of table pairs).table key ≡ row_at table key
  unfolding tally_of
  get-tally key = get-rows_by table.hits (keys_in table) key

  -- the tally has a row for exactly the keys in the table
  pub contains-tally : (key : List Part) → map.contains_key (tally_of table pairs).table key ≡ is_in table key
  contains-tally key = ap is_some (get-tally key) ∙ some_where (is_in table key) (counted_row table.hits key)

  -- as many rows as the table has keys
  pub len-tally : map.len (tally_of table pairs).table ≡ length (keys_in table)
  unfolding tally_of
  len-tally = len-rows_by table.hits (keys_in table) (keys_distinct table)

  -- a hit of a key has a place exactly if it is counted
  pub place_is_counted : (key : List Part) → has_place table.size (tally_of table pairs).table key ≡ is_counted table key
  place_is_counted key = (λ i. contains-tally key i || nat_lt (len-tally i) table.size)

  pub dropped-tally : (tally_of table pairs).dropped ≡ (totals_of table).dropped
  unfolding tally_of
  dropped-tally = refl

  pub pairs-tally : (tally_of table pairs).pairs ≡ pairs
  unfolding tally_of
  pairs-tally = refl

no_keys : (size : ℕ) (order : List Mark) → order ≡ [] → list_map (λ (m : Mark). m.key) (take size order) ≡ []
no_keys zero order none = refl
no_keys (suc size) order none = ap (λ (ms : List Mark). list_map (λ (m : Mark). m.key) (take (suc size) ms)) none

no_keys_out : (size : ℕ) (order : List Mark) → order ≡ [] → list_map (λ (m : Mark). m.key) (drop size order) ≡ []
no_keys_out zero order none = ap (list_map (λ (m : Mark). m.key)) none
no_keys_out (suc size) order none = ap (λ (ms : List Mark). list_map (λ (m : Mark). m.key) (drop (suc size) ms)) none

none_first : first_hits map.empty ≡ map.empty
unfolding first_hits
none_first = same_map mark_cmp_total mark_same _ _ (λ q. get-first_hits map.empty q ∙ ap (λ o. cond (is_first map.empty q) o None) (get-empty mark_cmp q) ∙ cond_same (is_first map.empty q) None ∙ sym (get-empty mark_cmp q))

-- an empty table's tally is the empty one
pub tally-empty : (size : ℕ) → tally_of (record { hits = map.empty; size = size }) [] ≡ empty_tally
unfolding tally_of
tally-empty size =
    let order : order_of map.empty ≡ [] = ap map.keys none_first ∙ ap (list_map (λ e. e.0)) (entries-empty mark_cmp) in
    λ i. record {
      table = rows_by map.empty (no_keys size (order_of map.empty) order i);
      dropped = sum_by (hitcount map.empty) (no_keys_out size (order_of map.empty) order i);
      pairs = [];
    }

-- ---- a hit's pair

pub tally-pair : (table : Tabled) (at : Pos) (saved : Option Pos) (pairs : List Pair) → tally_of table (pairs_with at saved pairs) ≡ with_pair at saved (tally_of table pairs)
unfolding tally_of
tally-pair table at None pairs = refl
tally-pair table at (Some saved) pairs = refl

-- ---- a hit after all others

module _ (rows : RowsGrow) (totals : TotalsGrow) (members : InGrows) (table : Tabled) (m : Mark) (v : List ℤ) (last : ComesLast table m) where
  abbrev after : Tabled
  after = with_hit table m v

  -- its key is then in the table exactly if it is counted
  pub in_where_counted : is_in (with_hit table m v) m.key ≡ is_counted table m.key
  in_where_counted = members table m v m.key last ∙ ap (λ b. if b then is_counted table m.key else is_in table m.key) (same_itself m.key)

  -- what is dropped then, by whether the key is in and whether there is room
  dropped_by : (inside room : Bool) (t : Totals)
      → (if inside then record t { hits = t.hits + 1 } else if room then record t { hits = t.hits + 1; entries = t.entries + 1 } else record t { dropped = t.dropped + 1 }).dropped ≡ cond (inside || room) t.dropped (t.dropped + 1)
  dropped_by true room t = refl
  dropped_by false true t = refl
  dropped_by false false t = refl

  dropped_after : (totals_of after).dropped ≡ cond (is_counted table m.key) (totals_of table).dropped ((totals_of table).dropped + 1)
  dropped_after = ap (λ (t : Totals). t.dropped) (totals table m v last) ∙ dropped_by (is_in table m.key) (has_room table) (totals_of table)

  abbrev row_if : Bool → List Part → Option Counted
  row_if grows q = cond grows (Some (grown v (unwrap_or (row_at table q) (empty_row q)))) (row_at table q)

  row_after : (q : List Part) (same counts : Bool) → same_key q m.key ≡ same → is_counted table m.key ≡ counts → row_at after q ≡ cond (same && counts) (Some (grow v m.key (row_at table m.key))) (row_at table q)
  row_after q true counts is how =
      let key : q ≡ m.key = same_from_tie key_same q m.key is in
      rows table m v q last ∙ ap (λ b. row_if b q) (λ i. is i && (ap (is_counted table) key ∙ how) i)
      ∙ ap (λ k. cond counts (Some (grow v k (row_at table k))) (row_at table q)) key
  row_after q false counts is how = rows table m v q last ∙ ap (λ b. row_if (b && is_counted table q) q) is

  module _ (pairs : List Pair) where
    abbrev before : Tally
    before = tally_of table pairs

    rows_counted : is_counted table m.key ≡ true → (tally_of after pairs).table ≡ map.insert before.table m.key (grow v m.key (map.get before.table m.key))
    rows_counted counts = same_map key_cmp_total key_same _ _ (λ q.
        get-tally after pairs q ∙ row_after q (same_key q m.key) true refl counts
        ∙ ap (λ b. cond b (Some (grow v m.key (row_at table m.key))) (row_at table q)) (and_true (same_key q m.key))
        ∙ sym (get-insert key_cmp_total before.table m.key (grow v m.key (map.get before.table m.key)) q
        ∙ (λ i. cond (same_key q m.key) (Some (grow v m.key (get-tally table pairs m.key i))) (get-tally table pairs q i))))

    rows_dropped : is_counted table m.key ≡ false → (tally_of after pairs).table ≡ before.table
    rows_dropped none = same_map key_cmp_total key_same _ _ (λ q.
        get-tally after pairs q ∙ row_after q (same_key q m.key) false refl none
        ∙ ap (λ b. cond b (Some (grow v m.key (row_at table m.key))) (row_at table q)) (and_false (same_key q m.key))
        ∙ sym (get-tally table pairs q))

    grows_by : (counts : Bool) → is_counted table m.key ≡ counts → tally_of after pairs ≡ (if counts then record before { table = map.insert before.table m.key (grow v m.key (map.get before.table m.key)) } else record before { dropped = before.dropped + 1 })
    unfolding tally_of
    grows_by true is = λ i. record { table = rows_counted is i; dropped = (dropped_after ∙ ap (λ b. cond b (totals_of table).dropped ((totals_of table).dropped + 1)) is) i; pairs = pairs }
    grows_by false is = λ i. record { table = rows_dropped is i; dropped = (dropped_after ∙ ap (λ b. cond b (totals_of table).dropped ((totals_of table).dropped + 1)) is) i; pairs = pairs }

    -- the tally has one hit more, counted or dropped
    pub tally_grows : tally_of (with_hit table m v) pairs ≡ count table.size m.key (grow v m.key) (tally_of table pairs)
    unfolding count
    tally_grows =
        grows_by (is_counted table m.key) refl
        ∙ ap (λ b. if b then record before { table = map.insert before.table m.key (grow v m.key (map.get before.table m.key)) } else record before { dropped = before.dropped + 1 }) (sym (place_is_counted table pairs m.key))

  -- and with the hit's pair
  pub tally_grows_with : (at : Pos) (saved : Option Pos) (pairs : List Pair) → tally_of (with_hit table m v) (pairs_with at saved pairs) ≡ count table.size m.key (grow v m.key) (with_pair at saved (tally_of table pairs))
  tally_grows_with at saved pairs = tally_grows (pairs_with at saved pairs) ∙ ap (count table.size m.key (grow v m.key)) (tally-pair table at saved pairs)
