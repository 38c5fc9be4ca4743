-- Rows, and the finite map of the lines and places of those that are not struck.
use Rattle.std.proofs.Common.{◌≡◌, ℕ, zero, suc, ◌+◌, ◌<◌, ◌≤◌, Bool, true, false, cond, not, List, [], ◌∷◌, ◌++◌, length, get_or, set, refl, sym, ap, ◌∙◌, subst, Option, Some, None, unwrap_or, ⊎_elim, arith}
use Rattle.std.specs.Prelude.{slice_get}
use Rattle.std.specs.List.{AllByRecursion}
use Rattle.std.specs.List.Sorted.{IsStrictlySortedBy, IsSortedBy, IsNonDecreasingBy, IsPartitionPoint}
use Rattle.std.specs.declared.cmp.Ordering.TheVariants.{Less, Greater}
use Rattle.std.specs.Ordering.{nat_cmp, is_lt, ordering_index, ordering_reverse}
use Rattle.std.specs.Cmp.{nat_cmp_total, nat_cmp_is, eq_by_cmp_equiv, unsigned_tied}
use Rattle.std.specs.Map.{lookup, keys_of}
use Rattle.std.specs.BTreeMap.{is_at}
use Rattle.std.specs.FinMap as map
use Rattle.std.specs.FinMap.{find, from_entries_push, get-from_entries, len-entries, same_map, nat_cmp-IsAntisymmetric}
use Rattle.std.proofs.lemmas.Bool.{cases_eq, eq-eqb, ne_eqb}
use Rattle.std.proofs.lemmas.List.{length_push, length-map, get_or-map}
use Rattle.std.proofs.lemmas.List.Elements.{filter-append}
use Rattle.std.proofs.lemmas.List.Sorted.{searchable_from_sorted}
use Rattle.std.proofs.lemmas.Map.Keys.{IsDistinct-from_sorted, below_from_sorted}
use Rattle.std.proofs.lemmas.Map.Entries.{option_filter, lookup-filter-values, lookup_from_place, lookup_at_gap}
use Rattle.std.proofs.lemmas.Option.{none-some, get_or_from_slice_get, slice_get_within, slice_get-get_or}
use Rattle.ft_maps.specs.Entries.{entries-from_entries, get-remove_same, get-remove_other}
use Rattle.ft_maps.specs.Seen.{find-lookup}
use Rattle.ft_lanes.specs.inner.Rows.{struck_place, is_held, held_rows, Rise, AreBelow, AreRows}
use Rattle.ft_lanes.specs.inner.Slots.{slots_of, slots_with}
use Rattle.ft_lanes.proofs.Counts.{remove_none}

-- ---- what is true of each line is true of each held line

module _ (P : ℕ → Type 0) where
  each-kept : (b : Bool) (row : ℕ × ℕ) (rows : List (ℕ × ℕ)) → P row.0 → AllByRecursion P (keys_of rows) → AllByRecursion P (keys_of (cond b (row ∷ rows) rows))
  each-kept true row rows here all = (here, all)
  each-kept false row rows here all = all

  pub each-held : (rows : List (ℕ × ℕ)) → AllByRecursion P (keys_of rows) → AllByRecursion P (keys_of (held_rows rows))
  each-held [] all = tt
  each-held (row ∷ rows) all = each-kept (is_held row.1) row (held_rows rows) all.0 (each-held rows all.1)

  pub each-push : (rows : List (ℕ × ℕ)) (row : ℕ × ℕ) → AllByRecursion P (keys_of rows) → P row.0 → AllByRecursion P (keys_of (rows ++ row ∷ []))
  each-push [] row all here = (here, tt)
  each-push (r ∷ rows) row all here = (all.0, each-push rows row all.1 here)

  pub each-weaker : (Q : ℕ → Type 0) → ((line : ℕ) → P line → Q line) → (lines : List ℕ) → AllByRecursion P lines → AllByRecursion Q lines
  each-weaker Q weaker [] all = tt
  each-weaker Q weaker (line ∷ lines) all = (weaker line all.0, each-weaker Q weaker lines all.1)

rise-kept : (b : Bool) (row : ℕ × ℕ) (rows : List (ℕ × ℕ)) → AllByRecursion (λ line. nat_cmp row.0 line ≡ Less) (keys_of rows) → Rise rows → Rise (cond b (row ∷ rows) rows)
unfolding IsStrictlySortedBy
rise-kept true row rows below rise = (below, rise)
rise-kept false row rows below rise = rise

-- the lines of held rows rise
pub rise-held : (rows : List (ℕ × ℕ)) → Rise rows → Rise (held_rows rows)
unfolding IsStrictlySortedBy
rise-held [] rise = tt
rise-held (row ∷ rows) rise = rise-kept (is_held row.1) row (held_rows rows) (each-held (λ line. nat_cmp row.0 line ≡ Less) rows rise.0) (rise-held rows rise.1)

less : (a b : ℕ) → a < b → nat_cmp a b ≡ Less
less a b lt = sym (nat_cmp_is a b Less lt)

-- and so do the lines with a greater one after them
pub rise-push : (rows : List (ℕ × ℕ)) (row : ℕ × ℕ) → Rise rows → AreBelow row.0 rows → Rise (rows ++ row ∷ [])
unfolding IsStrictlySortedBy
rise-push [] row rise below = (tt, tt)
rise-push (r ∷ rows) row rise below = (each-push (λ line. nat_cmp r.0 line ≡ Less) rows row rise.0 (less r.0 row.0 below.0), rise-push rows row rise.1 below.1)

-- ---- the map of the held rows

abbrev pub places_of : List (ℕ × ℕ) → map.FinMap nat_cmp ℕ
places_of rows = map.from_entries (held_rows rows)

module _ (rows : List (ℕ × ℕ)) (rise : Rise rows) where
  -- its entries are the held rows
  pub entries-places : map.entries (places_of rows) ≡ held_rows rows
  entries-places = entries-from_entries nat_cmp_total (held_rows rows) (rise-held rows rise)

  pub len-places : map.len (places_of rows) ≡ length (held_rows rows)
  len-places = len-entries (places_of rows) ∙ ap length entries-places

  -- a look-up finds the row of the line, if that is held
  pub lookup-held : (line : ℕ) → lookup (is_at (nat_cmp line)) (held_rows rows) ≡ option_filter is_held (lookup (is_at (nat_cmp line)) rows)
  lookup-held line = lookup-filter-values (eq_by_cmp_equiv nat_cmp_total) is_held line rows (IsDistinct-from_sorted nat_cmp (keys_of rows) rise)

  -- a row is found by its line
  pub lookup-row : (i line place : ℕ) → slice_get rows i ≡ Some (line, place) → lookup (is_at (nat_cmp line)) rows ≡ Some place
  lookup-row i line place at = lookup_from_place (eq_by_cmp_equiv nat_cmp_total) rows i line place (IsDistinct-from_sorted nat_cmp (keys_of rows) rise) at

  -- a line without a row has no slot
  pub missing-held : (line : ℕ) → lookup (is_at (nat_cmp line)) rows ≡ None → lookup (is_at (nat_cmp line)) (held_rows rows) ≡ None
  missing-held line none = lookup-held line ∙ ap (option_filter is_held) none

  -- nor has one whose row is struck
  pub struck-held : (line i place : ℕ) → slice_get rows i ≡ Some (line, place) → place ≡ struck_place → lookup (is_at (nat_cmp line)) (held_rows rows) ≡ None
  struck-held line i place at is = lookup-held line ∙ ap (option_filter is_held) (lookup-row i line place at) ∙ ap (λ b. cond b (Some place) None) (ap not (eq-eqb place struck_place is))

  -- the slot of any other
  pub found-held : (line i place : ℕ) → slice_get rows i ≡ Some (line, place) → is_held place ≡ true → lookup (is_at (nat_cmp line)) (held_rows rows) ≡ Some place
  found-held line i place at held = lookup-held line ∙ ap (option_filter is_held) (lookup-row i line place at) ∙ ap (λ b. cond b (Some place) None) held

pub held-ne : (place : ℕ) → (place ≡ struck_place → ⊥) → is_held place ≡ true
held-ne place ne = ap not (ne_eqb place struck_place ne)

pub get-places : (rows : List (ℕ × ℕ)) (line : ℕ) → map.get (places_of rows) line ≡ lookup (is_at (nat_cmp line)) (held_rows rows)
get-places rows line = get-from_entries nat_cmp_total (held_rows rows) line ∙ find-lookup nat_cmp line (held_rows rows)

-- ---- a search

turned : (a b : ℕ) → nat_cmp a b ≡ Greater → nat_cmp b a ≡ Less
turned a b greater = nat_cmp_total.antisymm b a ∙ ap ordering_reverse greater

turned_back : (a b : ℕ) → nat_cmp a b ≡ Less → nat_cmp b a ≡ Greater
turned_back a b is = nat_cmp_total.antisymm b a ∙ ap ordering_reverse is

module _ (rows : List (ℕ × ℕ)) (rise : Rise rows) (line : ℕ) where
  risen : IsSortedBy (λ (a b : ℕ × ℕ). is_lt (nat_cmp a.0 b.0)) rows
  risen k d _ lt =
      let next : (get_or rows k d).0 < (get_or rows (k + 1) d).0 =
      subst (λ n. n < (get_or rows (k + 1) d).0) (get_or-map (λ (r : ℕ × ℕ). r.0) rows k d d.0 (omega arith))
      (subst (λ n. get_or (keys_of rows) k d.0 < n) (get_or-map (λ (r : ℕ × ℕ). r.0) rows (k + 1) d d.0 lt)
      (below_from_sorted (keys_of rows) k (k + 1) d.0 rise (omega arith) (omega (arith, lt, length-map rows (λ (r : ℕ × ℕ). r.0))))) in
      ap is_lt (turned_back (get_or rows k d).0 (get_or rows (k + 1) d).0 (less _ _ next))

  -- if halving ends without finding it, the line has no row
  pub searched-none : (i : ℕ) → i ≤ length rows → (IsNonDecreasingBy (λ (row : ℕ × ℕ). ordering_index (nat_cmp row.0 line)) rows → IsPartitionPoint (λ row. nat_cmp row.0 line ≡ Less) (λ row. nat_cmp row.0 line ≡ Greater) rows i) → lookup (is_at (nat_cmp line)) rows ≡ None
  searched-none i le parted =
      let point = parted (searchable_from_sorted nat_cmp_total (λ (row : ℕ × ℕ). row.0) rows line risen) in
      lookup_at_gap nat_cmp_total line rows i rise
      (λ j row lt at. turned_back row.0 line (subst (λ (r : ℕ × ℕ). nat_cmp r.0 line ≡ Less) (get_or_from_slice_get rows j row row at) (point.0 j row (omega arith) lt)))
      (λ row at. turned row.0 line (subst (λ (r : ℕ × ℕ). nat_cmp r.0 line ≡ Greater) (get_or_from_slice_get rows i row row at) (point.1 i row (omega arith) (slice_get_within rows i row at))))

-- a row by its index
pub row-at : (rows : List (ℕ × ℕ)) (line i : ℕ) (d : ℕ × ℕ) → i < length rows → (get_or rows i d).0 ≡ line → slice_get rows i ≡ Some (line, (get_or rows i d).1)
row-at rows line i d within found = slice_get-get_or rows i d within ∙ ap (λ (l : ℕ). Some (l, (get_or rows i d).1)) found

-- ---- one more row

not_struck : (place : ℕ) → place < struck_place → is_held place ≡ true
not_struck place lt = held-ne place (λ e. omega arith)

find-past : (next : ℕ) (rows : List (ℕ × ℕ)) → AreBelow next rows → find nat_cmp next rows ≡ None
find-past next [] below = refl
find-past next (row ∷ rows) below =
    let lt : row.0 < next = below.0 in
    ap (λ b. cond b (Some row.1) (find nat_cmp next rows)) (unsigned_tied next row.0 ∙ ne_eqb next row.0 (λ e. omega arith))
    ∙ find-past next rows below.1

-- a row with a place is held
held_one_more : (rows : List (ℕ × ℕ)) (line place : ℕ) → place < struck_place → held_rows (rows ++ (line, place) ∷ []) ≡ held_rows rows ++ (line, place) ∷ []
held_one_more rows line place lt =
    filter-append (λ row. is_held row.1) rows ((line, place) ∷ [])
    ∙ ap (λ b. held_rows rows ++ cond b ((line, place) ∷ []) []) (not_struck place lt)

-- and if all are held, they still are with this one added
pub held_more : (rows : List (ℕ × ℕ)) (line place : ℕ) → place < struck_place → held_rows rows ≡ rows → held_rows (rows ++ (line, place) ∷ []) ≡ rows ++ (line, place) ∷ []
held_more rows line place lt all = held_one_more rows line place lt ∙ ap (λ l. l ++ (line, place) ∷ []) all

module _ (struck next : ℕ) (rows : List (ℕ × ℕ)) (are : AreRows struck next rows) (place : ℕ) (lt : place < struck_place) where
  held-push : held_rows (rows ++ (next, place) ∷ []) ≡ held_rows rows ++ (next, place) ∷ []
  held-push = held_one_more rows next place lt

  -- is one more slot
  pub slots-push : slots_of (held_rows (rows ++ (next, place) ∷ [])) (next + 1) ≡ slots_with (slots_of (held_rows rows) next) place
  slots-push =
      let places : places_of (rows ++ (next, place) ∷ []) ≡ map.insert (places_of rows) next place =
      ap map.from_entries held-push
      ∙ from_entries_push nat_cmp_total nat_cmp-IsAntisymmetric (held_rows rows) next place (find-past next (held_rows rows) (each-held (λ line. line < next) rows are.below)) in
      λ i. record { places = places i; next = next + 1 }

  pub rows-push : AreRows struck (next + 1) (rows ++ (next, place) ∷ [])
  rows-push = record {
    rise = rise-push rows (next, place) are.rise are.below;
    below = each-push (λ line. line < next + 1) rows (next, place) (each-weaker (λ line. line < next) (λ line. line < next + 1) (λ line below. omega arith) (keys_of rows) are.below) (omega arith);
    counted = omega (arith, are.counted, length_push rows (next, place), ap length held-push, length_push (held_rows rows) (next, place));
  }

  -- and it counts as one
  pub len-push : map.len (places_of (rows ++ (next, place) ∷ [])) ≡ map.len (places_of rows) + 1
  len-push = omega (arith, len-places (rows ++ (next, place) ∷ []) rows-push.rise, ap length held-push, length_push (held_rows rows) (next, place), len-places rows are.rise)

-- ---- a row struck

row_is : {row other : ℕ × ℕ} → Some row ≡ Some other → row ≡ other
row_is {row} e = ap (λ o. unwrap_or o row) e

module _ (line place : ℕ) (held : is_held place ≡ true) where
  abbrev pub struck : ℕ × ℕ
  struck = (line, struck_place)

  pub keys-strike : (rows : List (ℕ × ℕ)) (i : ℕ) → slice_get rows i ≡ Some (line, place) → keys_of (set rows i struck) ≡ keys_of rows
  keys-strike [] i at = refl
  keys-strike (row ∷ rows) zero at = ap (λ (r : ℕ × ℕ). r.0 ∷ keys_of rows) (sym (row_is at))
  keys-strike (row ∷ rows) (suc i) at = ap (λ (lines : List ℕ). row.0 ∷ lines) (keys-strike rows i at)

  apart : (q : ℕ) → (q ≡ line → ⊥) → (v : ℕ) (rest : Option ℕ) → cond (is_at (nat_cmp q) line) (Some v) rest ≡ rest
  apart q ne v rest = ap (λ b. cond b (Some v) rest) (unsigned_tied q line ∙ ne_eqb q line ne)

  lookup-apart : (q : ℕ) → (q ≡ line → ⊥) → (rows : List (ℕ × ℕ)) (i : ℕ) → slice_get rows i ≡ Some (line, place) → lookup (is_at (nat_cmp q)) (set rows i struck) ≡ lookup (is_at (nat_cmp q)) rows
  lookup-apart q ne [] i at = refl
  lookup-apart q ne (row ∷ rows) zero at =
      let rest = lookup (is_at (nat_cmp q)) rows in
      apart q ne struck_place rest ∙ sym (apart q ne place rest) ∙ ap (λ (r : ℕ × ℕ). cond (is_at (nat_cmp q) r.0) (Some r.1) rest) (sym (row_is at))
  lookup-apart q ne (row ∷ rows) (suc i) at = ap (cond (is_at (nat_cmp q) row.0) (Some row.1)) (lookup-apart q ne rows i at)

  at-strike : (rows : List (ℕ × ℕ)) (i : ℕ) → slice_get rows i ≡ Some (line, place) → slice_get (set rows i struck) i ≡ Some struck
  at-strike [] i at = absurd (none-some (line, place) at)
  at-strike (row ∷ rows) zero at = refl
  at-strike (row ∷ rows) (suc i) at = at-strike rows i at

  one_less : (b : Bool) (row : ℕ × ℕ) (rows less : List (ℕ × ℕ)) → length rows ≡ length less + 1 → length (cond b (row ∷ rows) rows) ≡ length (cond b (row ∷ less) less) + 1
  one_less true row rows less e = omega arith
  one_less false row rows less e = e

  -- one held row less
  pub count-strike : (rows : List (ℕ × ℕ)) (i : ℕ) → slice_get rows i ≡ Some (line, place) → length (held_rows rows) ≡ length (held_rows (set rows i struck)) + 1
  count-strike [] i at = absurd (none-some (line, place) at)
  count-strike (row ∷ rows) zero at = ap (λ b. length (cond b (row ∷ held_rows rows) (held_rows rows))) (ap (λ (r : ℕ × ℕ). is_held r.1) (row_is at) ∙ held) ∙ omega arith
  count-strike (row ∷ rows) (suc i) at = one_less (is_held row.1) row (held_rows rows) (held_rows (set rows i struck)) (count-strike rows i at)

  module _ (rows : List (ℕ × ℕ)) (rise : Rise rows) (i : ℕ) (at : slice_get rows i ≡ Some (line, place)) where
    rise-strike : Rise (set rows i struck)
    rise-strike = subst (IsStrictlySortedBy nat_cmp) (sym (keys-strike rows i at)) rise

    lookup-strike : (q : ℕ) → map.get (places_of (set rows i struck)) q ≡ option_filter is_held (lookup (is_at (nat_cmp q)) (set rows i struck))
    lookup-strike q = get-places (set rows i struck) q ∙ lookup-held (set rows i struck) rise-strike q

    strike-here : map.get (places_of (set rows i struck)) line ≡ None
    strike-here = lookup-strike line ∙ ap (option_filter is_held) (lookup-row (set rows i struck) rise-strike i line struck_place (at-strike rows i at))

    strike-apart : (q : ℕ) → (q ≡ line → ⊥) → map.get (places_of (set rows i struck)) q ≡ map.get (places_of rows) q
    strike-apart q ne =
        lookup-strike q ∙ ap (option_filter is_held) (lookup-apart q ne rows i at)
        ∙ sym (get-places rows q ∙ lookup-held rows rise q)

    -- the slot is taken out
    pub places-strike : places_of (set rows i struck) ≡ map.remove (places_of rows) line
    places-strike = same_map nat_cmp_total nat_cmp-IsAntisymmetric _ _ (λ q.
        ⊎_elim
        (λ s. ap (map.get (places_of (set rows i struck))) s ∙ strike-here ∙ sym (ap (map.get (map.remove (places_of rows) line)) s ∙ get-remove_same nat_cmp_total (places_of rows) line))
        (λ ne. strike-apart q ne ∙ sym (get-remove_other nat_cmp_total nat_cmp-IsAntisymmetric (places_of rows) line q ne))
        (cases_eq q line))

-- if no slot is found, nothing is taken out
pub remove-missing : (rows : List (ℕ × ℕ)) (line : ℕ) → lookup (is_at (nat_cmp line)) (held_rows rows) ≡ None → places_of rows ≡ map.remove (places_of rows) line
remove-missing rows line none = sym (remove_none (places_of rows) line (get-places rows line ∙ none))

-- ---- struck rows taken away

kept-again : (b : Bool) (row : ℕ × ℕ) (rows : List (ℕ × ℕ)) → is_held row.1 ≡ b → held_rows rows ≡ rows → held_rows (cond b (row ∷ rows) rows) ≡ cond b (row ∷ rows) rows
kept-again true row rows is e = ap (λ b. cond b (row ∷ held_rows rows) (held_rows rows)) is ∙ ap (λ (l : List (ℕ × ℕ)). row ∷ l) e
kept-again false row rows is e = e

-- held rows are held
pub held-held : (rows : List (ℕ × ℕ)) → held_rows (held_rows rows) ≡ held_rows rows
held-held [] = refl
held-held (row ∷ rows) = kept-again (is_held row.1) row (held_rows rows) refl (held-held rows)

pub rows-held : (struck next : ℕ) (rows : List (ℕ × ℕ)) → AreRows struck next rows → AreRows 0 next (held_rows rows)
rows-held struck next rows are = record {
  rise = rise-held rows are.rise;
  below = each-held (λ line. line < next) rows are.below;
  counted = omega (arith, ap length (held-held rows));
}

-- no rows
pub rows-empty : (next : ℕ) → AreRows 0 next []
unfolding IsStrictlySortedBy
rows-empty next = record { rise = tt; below = tt; counted = omega arith }

-- rows of which none is struck
pub rows-of : (next : ℕ) (rows : List (ℕ × ℕ)) → Rise rows → AreBelow next rows → held_rows rows ≡ rows → AreRows 0 next rows
rows-of next rows rise below held = record { rise = rise; below = below; counted = omega (arith, ap length held) }
