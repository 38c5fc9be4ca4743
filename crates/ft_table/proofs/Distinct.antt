-- No key has two rows, and each row's key is that of a hit.
use Rattle.std.proofs.Common.{◌≡◌, ℕ, zero, suc, min, ◌<◌, Bool, true, false, cond, List, [], ◌∷◌, length, get_or, take, map as list_map, refl, sym, ap, subst, ◌∙◌, None, Option, arith}
use Rattle.std.specs.Prelude.{ℤ, is_some, IsSome, IsPermutation}
use Rattle.std.specs.List.{All, AllByRecursion, IsDistinct}
use Rattle.std.specs.FinMap as map
use Rattle.std.proofs.lemmas.List.{take_min}
use Rattle.std.proofs.Math.Nat.{min_comm}
use Rattle.std.proofs.Math.Seq.{take-length}
use Rattle.std.proofs.lemmas.Map.Keys.{IsDistinct-cons}
use Rattle.std.proofs.lemmas.List.Elements.{All-nil, All-cons}
use Rattle.std.proofs.lemmas.List.Sorted.{All-permutation}
use Rattle.ft_hist.specs.declared.item.SortItem.{SortItem}
use Rattle.ft_fields.specs.declared.key.Part.{Part}
use Rattle.ft_fields.specs.Parts.{same_key}
use Rattle.ft_hist.specs.Fitting.{KeyFits}
use Rattle.ft_hist.specs.Hist.{Hist}
use Rattle.ft_hits.specs.declared.mark.Mark.{Mark}
use Rattle.ft_table.specs.Counted.{Counted}
use Rattle.ft_hits.specs.Hits.{Hits}
use Rattle.ft_table.specs.Rows.{counted_row, rows_of, AllFit}
use Rattle.ft_table.specs.Sorting.{in_order, HasDistinctKeys}
use Rattle.ft_table.specs.Tabled.{Tabled, first_hits, is_first, order_of, keys_in}
use Rattle.ft_table.proofs.Counts.{listed}
use Rattle.ft_table.proofs.Firsts.{get-first_hits}
use Rattle.ft_table.proofs.Tallies.{apart_after}

abbrev pub key_of : Mark → List Part
key_of m = m.key

all_apart : (key : List Part) (ms : List Mark) (s : ℕ) → ((j : ℕ) (d : Mark) → j < length ms → same_key key (get_or ms j d).key ≡ false) → AllByRecursion (λ q. same_key key q ≡ false) (list_map key_of (take s ms))
all_apart key [] zero apart = tt
all_apart key [] (suc s) apart = tt
all_apart key (m ∷ ms) zero apart = tt
all_apart key (m ∷ ms) (suc s) apart = (apart zero m (omega arith), all_apart key ms s (λ j d lt. apart (suc j) d (omega arith)))

-- keys that are apart at all places are distinct
taken_distinct : (ms : List Mark) (s : ℕ) → ((i j : ℕ) (d : Mark) → i < j → j < length ms → same_key (get_or ms i d).key (get_or ms j d).key ≡ false) → IsDistinct same_key (list_map key_of (take s ms))
unfolding IsDistinct
taken_distinct [] zero apart = tt
taken_distinct [] (suc s) apart = tt
taken_distinct (m ∷ ms) zero apart = tt
taken_distinct (m ∷ ms) (suc s) apart =
    IsDistinct-cons same_key m.key (list_map key_of (take s ms)) (all_apart m.key ms s (λ j d lt. apart zero (suc j) d (omega arith) (omega arith)))
    (taken_distinct ms s (λ i j d lt within. apart (suc i) (suc j) d (omega arith) (omega arith)))

-- those of the order are
pub order_distinct : (hits : Hits) → IsDistinct same_key (list_map key_of (order_of hits))
order_distinct hits = subst (λ (ms : List Mark). IsDistinct same_key (list_map key_of ms)) (take-length (order_of hits)) (taken_distinct (order_of hits) (length (order_of hits)) (apart_after hits))

-- no key stands twice in a table
pub keys_distinct : (table : Tabled) → IsDistinct same_key (keys_in table)
keys_distinct table = taken_distinct (order_of table.hits) table.size (apart_after table.hits)

keys-rows : (hits : Hits) (keys : List (List Part)) → list_map (λ row. row.key) (list_map (counted_row hits) keys) ≡ keys
keys-rows hits [] = refl
keys-rows hits (key ∷ keys) = ap (λ rest. key ∷ rest) (keys-rows hits keys)

-- the rows of a table's keys have one key each
pub rows_distinct : (table : Tabled) → HasDistinctKeys (list_map (counted_row table.hits) (keys_in table))
rows_distinct table = subst (IsDistinct same_key) (sym (keys-rows table.hits (keys_in table))) (keys_distinct table)

-- rows by mark are rows by key
pub rows-marks : (hits : Hits) (ms : List Mark) → list_map (λ mark. counted_row hits mark.key) ms ≡ list_map (counted_row hits) (list_map key_of ms)
rows-marks hits [] = refl
rows-marks hits (m ∷ ms) = ap (λ rest. counted_row hits m.key ∷ rest) (rows-marks hits ms)

-- so many of the first marks as there are and as there is room for
pub first_marks : (o d : List Mark) (n l s : ℕ) → n ≡ min l s → l ≡ length o → d ≡ o → take n d ≡ take s o
first_marks o d n l s least len same =
    (λ i. take ((least ∙ ap (λ m. min m s) len ∙ min_comm (length o) s) i) (same i)) ∙ take_min s o

-- the rows of so many first marks are those of the keys in the table
pub rows-listed : (hits : Hits) (o d : List Mark) (n l s : ℕ) (rows : List Counted) → n ≡ min l s → l ≡ length o → d ≡ o → o ≡ order_of hits → rows ≡ list_map (λ mark. counted_row hits mark.key) (take n d) → rows ≡ list_map (counted_row hits) (keys_in (record { hits = hits; size = s }))
rows-listed hits o d n l s rows least len same order is =
    is ∙ rows-marks hits (take n d) ∙ ap (λ (ms : List Mark). list_map (counted_row hits) (list_map key_of ms)) (first_marks o d n l s least len same ∙ ap (take s) order)

all_taken : (hits : Hits) (P : List Part → Type 0) (ms : List Mark) (s : ℕ) → ((j : ℕ) (d : Mark) → j < length ms → P (get_or ms j d).key) → All (λ (row : Counted). P row.key) (list_map (counted_row hits) (list_map key_of (take s ms)))
all_taken hits P [] zero each = All-nil (λ (row : Counted). P row.key)
all_taken hits P [] (suc s) each = All-nil (λ (row : Counted). P row.key)
all_taken hits P (m ∷ ms) zero each = All-nil (λ (row : Counted). P row.key)
all_taken hits P (m ∷ ms) (suc s) each =
    All-cons (λ (row : Counted). P row.key) (counted_row hits m.key) (list_map (counted_row hits) (list_map key_of (take s ms))) (each zero m (omega arith))
    (all_taken hits P ms s (λ j d lt. each (suc j) d (omega arith)))

-- a first hit is a hit
hit_of_first : (first : Bool) (o : Option (List ℤ)) → is_some (cond first o None) ≡ true → IsSome o
hit_of_first true o some = some
hit_of_first false o some = absurd cc

-- if the keys of all hits fit, those of the rows do
pub rows_fit : ((sort : List SortItem) (rows : List Counted) → IsPermutation rows (in_order sort rows)) → (table : Tabled) (hist : Hist) (sort : List SortItem) → AllFit table hist → All (λ (row : Counted). KeyFits hist.keys row.key) (rows_of table sort)
rows_fit permutes table hist sort fit =
    All-permutation (λ (row : Counted). KeyFits hist.keys row.key) (list_map (counted_row table.hits) (keys_in table)) (rows_of table sort) (permutes sort (list_map (counted_row table.hits) (keys_in table)))
    (all_taken table.hits (KeyFits hist.keys) (order_of table.hits) table.size (λ j d lt.
    fit (get_or (order_of table.hits) j d)
    (hit_of_first (is_first table.hits (get_or (order_of table.hits) j d)) (map.get table.hits (get_or (order_of table.hits) j d))
    (ap is_some (sym (get-first_hits table.hits (get_or (order_of table.hits) j d))) ∙ listed (first_hits table.hits) j d lt))))
