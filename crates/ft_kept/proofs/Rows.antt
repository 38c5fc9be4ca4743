-- The rows of a report: none twice, each that differs, and few of each trigger.
use Rattle.std.proofs.Common.{◌≡◌, ◌*◌, ◌≤◌, ℕ, Bool, true, false, cond, T, List, [], ◌∷◌, ◌++◌, length, refl, sym, ap, subst, ◌∙◌, arith, rules, Some, None, Option, nat_eq}
use Rattle.std.specs.Prelude.{◌&&◌}
use Rattle.std.specs.List.{filter, flat_map, AllByRecursion, IsDistinct}
use Rattle.std.specs.Option.{option_map_or}
use Rattle.std.specs.Ordering.{nat_cmp, is_lt}
use Rattle.std.specs.Cmp.{unsigned_ties}
use Rattle.std.specs.FinMap as map
use Rattle.std.specs.FinMap.{FinMap, find, is_sorted, entries_sorted, get-entries}
use Rattle.std.specs.FinMap.Entries.{below_all}
use Rattle.std.proofs.lemmas.Bool.{and_right}
use Rattle.std.proofs.lemmas.Bool.Decides.{nat_tests}
use Rattle.std.proofs.lemmas.List.{append-nil, length-append, length-map}
use Rattle.std.proofs.lemmas.List.Elements.{filter-append}
use Rattle.ft_hist.specs.Hist.{Hist}
use Rattle.ft_hist.specs.Made.{counts_made}
use Rattle.ft_hist.specs.Triggers.{Triggers}
use Rattle.ft_hits.proofs.Flat.{same_itself}
use Rattle.ft_fields.specs.declared.key.Part.{Part}
use Rattle.ft_fields.specs.Parts.{same_key}
use Rattle.ft_maps.specs.Entries.{and_left as first, and_right as second, is_less}
use Rattle.ft_changes.specs.Reports.{same_row, is_reported, reported_of}
use Rattle.ft_changes.specs.Rivals.{is_of, rivals, AreTablesButFor, FewRivals, RivalsAreOthers, RivalsDiffer, RowsStayBut}
use Rattle.ft_changes.specs.declared.changed.Changed.{Changed}
use Rattle.ft_shelves.specs.Shelves.{Shelved, Shelves, FormStays, role_on, kept_on}
use Rattle.ft_kept.specs.Changes.{keys_of, whose_of}
use Rattle.ft_kept.specs.Laws.{ReportedOnce, OthersStay, TwoReported, ReaderReported, readers_of}
use Rattle.ft_kept.specs.Report.{keys_reported, report_of, row_on, rows_at, rows_by}
use Rattle.ft_kept.specs.Touched.{each_once, with_rivals}
use Rattle.ft_kept.specs.declared.changes.KeyChange.{KeyChange}
use Rattle.ft_kept.proofs.Once.{distinct_both, each_distinct, few_each_once, neither, of_each_once, rivals_once}

-- ---- entries of an id

module _ {X : Type 0} (id : ℕ) where
  abbrev of_id : List (ℕ × X) → List (ℕ × X)
  of_id = filter (λ e. nat_eq id e.0)

  none_above : (es : List (ℕ × X)) → T (below_all nat_cmp id es) → of_id es ≡ []
  none_above [] below = refl
  none_above (e ∷ es) below = grind (
    arith,
    nat_tests,
    unsigned_ties,
    none_above es (second (is_lt (nat_cmp id e.0)) (below_all nat_cmp id es) below),
    is_less (nat_cmp id e.0) (first (is_lt (nat_cmp id e.0)) (below_all nat_cmp id es) below),
  )

  -- behind the first of some that ascend there is none of its id
  none_behind : (e : ℕ × X) (es : List (ℕ × X)) → T (is_sorted nat_cmp (e ∷ es)) → id ≡ e.0 → of_id es ≡ []
  none_behind e es sorted is = none_above es (subst (λ n. T (below_all nat_cmp n es)) (sym is) (first (below_all nat_cmp e.0 es) (is_sorted nat_cmp es) sorted))

  -- the entry of an id with this value, if it has one
  abbrev entry : Option X → List (ℕ × X)
  entry o = option_map_or (λ x. (id, x) ∷ []) o []

  one_of_list : (es : List (ℕ × X)) → T (is_sorted nat_cmp es) → of_id es ≡ entry (find nat_cmp id es)
  one_of_list [] sorted = refl
  one_of_list (e ∷ es) sorted = grind (arith, nat_tests, unsigned_ties, none_behind e es sorted, one_of_list es (second (below_all nat_cmp e.0 es) (is_sorted nat_cmp es) sorted))

  -- of a map's entries an id has its own, or none
  one_of_id : (m : FinMap nat_cmp X) → of_id (map.entries m) ≡ entry (map.get m id)
  one_of_id m = one_of_list (map.entries m) (entries_sorted m) ∙ ap entry (sym (get-entries m id))

  -- so one at most
  one_at_most : (m : FinMap nat_cmp X) → length (of_id (map.entries m)) ≤ 1
  one_at_most m = grind (arith, one_of_id m)

-- ---- rows of an id

reported_at : (id i : ℕ) (key : List Part) (keys : List (List Part)) → is_reported (rows_at i keys) id key ≡ (nat_eq id i && is_of keys key)
reported_at id i key [] = grind arith
reported_at id i key (k ∷ keys) = grind (arith, reported_at id i key keys)

rows_apart : (i : ℕ) (k : List Part) (keys : List (List Part)) → AllByRecursion (λ y. same_key k y ≡ false) keys → AllByRecursion (λ row. same_row (record { id = i; key = k }) row ≡ false) (rows_at i keys)
rows_apart i k [] apart = tt
rows_apart i k (y ∷ keys) apart = search (rows_apart i k keys, and_right, rules)

rows_once : (i : ℕ) (keys : List (List Part)) → IsDistinct same_key keys → IsDistinct same_row (rows_at i keys)
unfolding IsDistinct
rows_once i [] apart = tt
rows_once i (k ∷ keys) apart = (rows_apart i k keys apart.0, rows_once i keys apart.1)

abbrev own_rows : ℕ → List Changed → List Changed
own_rows id = filter (λ row. nat_eq id row.id)

own_reported : (id : ℕ) (key : List Part) (rows : List Changed) → is_reported rows id key ≡ is_reported (own_rows id rows) id key
own_reported id key [] = refl
own_reported id key (row ∷ rows) = grind (arith, own_reported id key rows)

own_rows_at : (id i : ℕ) (keys : List (List Part)) → own_rows id (rows_at i keys) ≡ cond (nat_eq id i) (rows_at i keys) []
own_rows_at id i [] = grind arith
own_rows_at id i (k ∷ keys) = grind (arith, own_rows_at id i keys)

module _ (keys : ℕ × Hist → List (List Part)) where
  abbrev rows_among : List (ℕ × Hist) → List Changed
  rows_among ts = flat_map (λ t. rows_at t.0 (keys t)) ts

  own_among : (id : ℕ) (ts : List (ℕ × Hist)) → own_rows id (rows_among ts) ≡ rows_among (of_id id ts)
  own_among id [] = refl
  own_among id (t ∷ ts) = grind (arith, filter-append, own_rows_at id t.0 (keys t), own_among id ts)

  once_among : ((t : ℕ × Hist) → IsDistinct same_key (keys t)) → (ts : List (ℕ × Hist)) → T (is_sorted nat_cmp ts) → IsDistinct same_row (rows_among ts)
  unfolding IsDistinct
  once_among each [] sorted = tt
  once_among each (t ∷ ts) sorted = distinct_both same_row (λ row. grind (arith, nat_tests, same_itself)) (rows_at t.0 (keys t)) (rows_among ts)
      (rows_once t.0 (keys t) (each t)) (once_among each ts (second (below_all nat_cmp t.0 ts) (is_sorted nat_cmp ts) sorted))
      (λ row is. grind (arith, nat_tests, reported_at row.id t.0 row.key (keys t), own_reported row.id row.key (rows_among ts), own_among row.id ts, none_behind row.id t ts sorted, is))

  module _ (triggers : Triggers) where
    -- none is twice among them, if no trigger's keys are
    pub once : ((t : ℕ × Hist) → IsDistinct same_key (keys t)) → IsDistinct same_row (rows_by keys triggers)
    once each = once_among each (map.entries triggers) (entries_sorted triggers)

    module _ (id : ℕ) where
      -- those of an id are its trigger's, if one is attached
      own : own_rows id (rows_by keys triggers) ≡ rows_at id (option_map_or (λ hist. keys (id, hist)) (map.get triggers id) [])
      own = grind (arith, own_among id (map.entries triggers), one_of_id id triggers, append-nil)

      module _ (key : List Part) where
        -- a row is among them if and only if its key is one of its trigger's
        reported : is_reported (rows_by keys triggers) id key ≡ is_of (option_map_or (λ hist. keys (id, hist)) (map.get triggers id) []) key
        reported = grind (arith, nat_tests, own_reported id key (rows_by keys triggers), own, reported_at id id key (option_map_or (λ hist. keys (id, hist)) (map.get triggers id) []))

        -- so a key that isn't reported is none of an attached trigger's
        pub not_reported : (hist : Hist) → map.get triggers id ≡ Some hist → is_reported (rows_by keys triggers) id key ≡ false → is_of (keys (id, hist)) key ≡ false
        not_reported hist attached none = grind (arith, reported, attached, none)

        -- and one that is reported is an attached trigger's
        pub whose : is_reported (rows_by keys triggers) id key ≡ true → (hist : Hist) × ((map.get triggers id ≡ Some hist) × (is_of (keys (id, hist)) key ≡ true))
        whose is = search (reported, rules)

-- ---- the report

pub reported_once : RivalsDiffer → RivalsAreOthers → ReportedOnce
unfolding report_of IsDistinct
reported_once differ others triggers shelves changes = once (keys_reported shelves changes) triggers (λ t. by t.0 (counts_made t.1) (map.get shelves t.0)) where
  by : (id : ℕ) (made : Bool) (o : Option Shelved) → IsDistinct same_key (cond made [] (option_map_or (λ shelf. with_rivals shelf.table (keys_of (whose_of shelf.role id) changes)) o []))
  by id true o = tt
  by id false None = tt
  by id false (Some shelf) = rivals_once differ others shelf.table _ (each_distinct (keys_of (whose_of shelf.role id) changes))

pub others_stay : RowsStayBut → OthersStay
unfolding report_of role_on kept_on
others_stay rows triggers changes old new forms hits id hist key attached held none = by (map.get old id) refl (forms id) where
  by : (o : Option Shelved) → map.get old id ≡ o → FormStays o (map.get new id) → row_on new id key ≡ row_on old id key
  by None was form = grind (arith, was, form)
  by (Some a) was (b, (is, kept)) =
      let its : List (List Part) = each_once (keys_of (whose_of b.role id) changes) in
      let role : role_on old id ≡ b.role = grind (arith, was, kept.role) in
      let unnamed : is_of (its ++ rivals b.table its) key ≡ false = grind (arith, is, held, not_reported (keys_reported new changes) triggers id key hist attached none) in
      let apart = neither its (rivals b.table its) key unnamed in
      let but : AreTablesButFor its b.table a.table = record {
        size = sym kept.size;
        hits = λ m other. grind (arith, was, is, role, hits id m, of_each_once (keys_of (whose_of b.role id) changes) m.key, other);
      } in
      grind (arith, was, is, rows b.table a.table its key but apart.0 apart.1)

-- for each key that is recorded of a trigger's hits it has two rows at most
few_told : FewRivals → (triggers : Triggers) (shelves : Shelves) (changes : List KeyChange) (id : ℕ) → reported_of (report_of triggers shelves changes) id ≤ 2 * length (keys_of (whose_of (role_on shelves id) id) changes)
unfolding report_of role_on
few_told others triggers shelves changes id = grind (arith, own (keys_reported shelves changes) triggers id, length-map, length-append, few_each_once, others)

pub two_reported : FewRivals → TwoReported
two_reported others triggers shelves changes are id unread = grind (arith, few_told others triggers shelves changes id, are (whose_of (role_on shelves id) id), unread, one_at_most id triggers)

pub reader_reported : FewRivals → ReaderReported
unfolding readers_of
reader_reported others triggers shelves changes are id saver reads = grind (arith, few_told others triggers shelves changes id, are (whose_of (role_on shelves id) id), reads, one_at_most saver triggers)
