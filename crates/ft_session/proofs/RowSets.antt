-- Sets of rows that reports name: what is put in, and the list of all.
use Rattle.std.proofs.Common.{◌≡◌, ◌<◌, ◌+◌, ℕ, suc, Bool, true, false, cond, List, [], ◌∷◌, length, drop, get_or, Option, Some, refl, sym, ap, ◌∙◌, arith, eqb-true, eq-eqb, map as list_map}
use Rattle.std.specs.Prelude.{◌||◌, ◌&&◌, is_some, nat_eq}
use Rattle.std.specs.List.{AllByRecursion, IsDistinct}
use Rattle.std.specs.Ordering.{nat_cmp, eq_by_cmp}
use Rattle.std.specs.Cmp.{eq_by_cmp_equiv, nat_cmp_total, tied_then}
use Rattle.std.specs.FinMap as map
use Rattle.std.specs.Map.{keys_of}
use Rattle.std.specs.FinMap.{find, get-insert, get-entries, entries_sorted, nat_cmp-IsAntisymmetric}
use Rattle.std.proofs.lemmas.Bool.{or_right}
use Rattle.std.proofs.lemmas.Map.Keys.{IsDistinct-from_sorted}
use Rattle.std.proofs.Math.Seq.{drop-cons}
use Rattle.ft_fields.specs.declared.key.Part.{Part}
use Rattle.ft_fields.specs.Parts.{key_cmp, same_key}
use Rattle.ft_maps.specs.Entries.{same_from_tie, strictly_sorted}
use Rattle.ft_changes.specs.declared.changed.Changed.{Changed}
use Rattle.ft_changes.specs.Reports.{same_row, is_reported}
use Rattle.ft_session.specs.declared.joint_report.NamedRow.{NamedRow}
use Rattle.ft_session.specs.inner.JointReports.{row_cmp, row_cmp_total, row_of}

abbrev RowSet : Type 0
RowSet = map.FinMap row_cmp (Unit {0})

abbrev has_row : RowSet → ℕ → List Part → Bool
has_row rows id key = is_some (map.get rows (record { id = id; key = key }))

-- numbers that tie are the same
same_number : (a b : ℕ) → eq_by_cmp nat_cmp a b ≡ nat_eq a b
same_number a b = by (nat_eq a b) (eq_by_cmp nat_cmp a b) refl refl
  where
    by : (t u : Bool) → nat_eq a b ≡ t → eq_by_cmp nat_cmp a b ≡ u → u ≡ t
    by true true same tie = refl
    by false false same tie = refl
    by true false same tie = sym tie ∙ ap (eq_by_cmp nat_cmp a) (sym (eqb-true a b same)) ∙ (eq_by_cmp_equiv nat_cmp_total).refl a
    by false true same tie = sym (eq-eqb a b (same_from_tie nat_cmp-IsAntisymmetric a b tie)) ∙ same

-- rows tie if they are of one trigger and one key
same_rows : (a b : NamedRow) → eq_by_cmp row_cmp a b ≡ (nat_eq a.id b.id && same_key a.key b.key)
same_rows a b = sym (tied_then (nat_cmp a.id b.id) (key_cmp a.key b.key)) ∙ ap (λ t. t && same_key a.key b.key) (same_number a.id b.id)

-- ---- rows that are put in

-- the next of some rows
next_row : (rows : List Changed) (i : ℕ) (row : Changed) → i < length rows → row ≡ get_or rows i row → drop i rows ≡ row ∷ drop (i + 1) rows
next_row rows i row within is = drop-cons rows i row within ∙ ap (λ (r : Changed). r ∷ drop (suc i) rows) (sym is) ∙ ap (λ (n : ℕ). row ∷ drop n rows) (one_more i)
  where
    one_more : (n : ℕ) → suc n ≡ n + 1
    one_more n = omega arith

module _ (rows new : RowSet) (named : List Changed) (i : ℕ) (row : Changed) (within : i < length named) (is : row ≡ get_or named i row) where
  -- a row that is put in is among those that are there, and no more among those that are left
  pub row_joins : new ≡ map.insert rows (record { id = row.id; key = row.key }) tt
      → (id : ℕ) (key : List Part) → (has_row new id key || is_reported (drop (i + 1) named) id key) ≡ (has_row rows id key || is_reported (drop i named) id key)
  row_joins put id key =
      let one : NamedRow = record { id = row.id; key = row.key } in
      let asked : NamedRow = record { id = id; key = key } in
      ap (λ (m : RowSet). has_row m id key || is_reported (drop (i + 1) named) id key) put
      ∙ ap (λ o. is_some o || is_reported (drop (i + 1) named) id key) (get-insert row_cmp_total rows one tt asked)
      ∙ ap (λ b. is_some (cond b (Some tt) (map.get rows asked)) || is_reported (drop (i + 1) named) id key) (same_rows asked one)
      ∙ by (nat_eq id row.id && same_key key row.key) (map.get rows asked)
      ∙ ap (λ (l : List Changed). has_row rows id key || is_reported l id key) (sym (next_row named i row within is))
    where
      by : (b : Bool) (o : Option (Unit {0})) → (is_some (cond b (Some tt) o) || is_reported (drop (i + 1) named) id key) ≡ (is_some o || (b || is_reported (drop (i + 1) named) id key))
      by true o = sym (or_right (is_some o) true refl)
      by false o = refl

-- ---- the rows of a set, as a list

module _ (id : ℕ) (key : List Part) where
  found : (es : List (NamedRow × Unit {0})) → is_reported (list_map row_of es) id key ≡ is_some (find row_cmp (record { id = id; key = key }) es)
  found [] = refl
  found (e ∷ es) =
      let asked : NamedRow = record { id = id; key = key } in
      ap (λ t. (nat_eq id e.0.id && same_key key e.0.key) || t) (found es)
      ∙ by (nat_eq id e.0.id && same_key key e.0.key)
      ∙ sym (ap (λ t. is_some (cond t (Some e.1) (find row_cmp asked es))) (same_rows asked e.0))
    where
      by : (b : Bool) → (b || is_some (find row_cmp (record { id = id; key = key }) es)) ≡ is_some (cond b (Some e.1) (find row_cmp (record { id = id; key = key }) es))
      by true = refl
      by false = refl

-- it reports the rows that the set has
pub listed : (rows : RowSet) (id : ℕ) (key : List Part) → is_reported (list_map row_of (map.entries rows)) id key ≡ has_row rows id key
listed rows id key = found id key (map.entries rows) ∙ sym (ap is_some (get-entries rows (record { id = id; key = key })))

apart : (e : NamedRow × Unit {0}) (es : List (NamedRow × Unit {0})) → AllByRecursion (λ y. eq_by_cmp row_cmp e.0 y ≡ false) (keys_of es) → AllByRecursion (λ y. same_row (row_of e) y ≡ false) (list_map row_of es)
apart e [] all = tt
apart e (f ∷ es) all = (sym (same_rows e.0 f.0) ∙ all.0, apart e es all.1)

distinct : (es : List (NamedRow × Unit {0})) → IsDistinct (eq_by_cmp row_cmp) (keys_of es) → IsDistinct same_row (list_map row_of es)
unfolding IsDistinct
distinct [] once = tt
distinct (e ∷ es) once = (apart e es once.0, distinct es once.1)

-- and none twice
pub listed_once : (rows : RowSet) → IsDistinct same_row (list_map row_of (map.entries rows))
listed_once rows = distinct (map.entries rows) (IsDistinct-from_sorted row_cmp (map.keys rows) (strictly_sorted row_cmp (map.entries rows) (entries_sorted rows)))
