-- The text of a key's row is the one that it has among all rows.
use Rattle.std.proofs.Common.{◌≡◌, ℕ, suc, zero, Bool, true, false, cond, List, [], ◌∷◌, Option, Some, None, Result, Ok, Err, map as list_map, refl, sym, ap, ◌∙◌, arith}
use Rattle.std.specs.Prelude.{◌||◌, option_map, unwrap_or, IsPermutation, IsSorted, if◌then◌else◌}
use Rattle.std.specs.List.{All, list_any}
use Rattle.std.specs.Option.{option_map_or}
use Rattle.std.specs.FinMap as map
use Rattle.std.proofs.lemmas.List.Elements.{All-nil, All-cons}
use Rattle.std.proofs.lemmas.List.Sorted.{All-permutation, list_any-IsPermutation}
use Rattle.ft_hist.specs.Hist.{Hist}
use Rattle.ft_hist.specs.declared.item.SortItem.{SortItem}
use Rattle.ft_fields.specs.declared.key.Part.{Part}
use Rattle.ft_fields.specs.Ties.{key_same}
use Rattle.ft_fields.specs.Parts.{same_key}
use Rattle.ft_maps.specs.Entries.{same_from_tie}
use Rattle.ft_table.specs.Counted.{Counted}
use Rattle.ft_table.specs.Keyed.{KeyedText}
use Rattle.ft_table.specs.Sorting.{row_cmp, in_order, HasDistinctKeys}
use Rattle.ft_table.specs.Text.{row_text, keyed_text}
use Rattle.ft_table.specs.Hits.{Hits}
use Rattle.ft_table.specs.Rows.{counted_row, row_at, rows_of}
use Rattle.ft_table.specs.Tabled.{Tabled, keys_in, is_in}
use Rattle.ft_base.specs.declared.refused.Refused.{Refused}
use Rattle.ft_base.specs.declared.refused.Refused.TheVariants.{NoTrigger}
use Rattle.ft_hist.specs.Triggers.{Triggers}
use Rattle.ft_replay.specs.Hits.{replayed_hits, pairs_of, table_for}
use Rattle.ft_replay.specs.Merged.{Events, merged}
use Rattle.ft_replay.specs.Replay.{State}
use Rattle.ft_replay.specs.Tally.{Tally, empty_tally, tally_of}
use Rattle.ft_replay.specs.declared.pair.Pair.{Pair}
use Rattle.ft_replay.proofs.Growing.{get-tally}
use Rattle.ft_replay.proofs.Shown.{rows-tally}
use Rattle.ft_made.specs.Laws.{HeldAreCounted, MadeAreTallied}
use Rattle.ft_made.specs.MadeHits.{made_hits_of}
use Rattle.ft_answers.specs.Answers.{row_texts_shown, row_text_shown, tally_shown, tally_row_texts, tally_row_text, of_attached}
use Rattle.ft_hist.specs.Made.{counts_made}
use Rattle.ft_answers.specs.Rows.{text_among, RowIsAmong}
use Rattle.ft_answers.proofs.Answering.{of_attached-some, shown-made, shown-held}
use Rattle.ft_answers.proofs.MadeTables.{AreTallied}

-- ---- rows that are what a key's hits come to

abbrev IsOf : Hits → Counted → Type 0
IsOf hits row = row ≡ counted_row hits row.key

each_row : (hits : Hits) (keys : List (List Part)) → All (IsOf hits) (list_map (counted_row hits) keys)
each_row hits [] = All-nil (IsOf hits)
each_row hits (key ∷ keys) = All-cons (IsOf hits) (counted_row hits key) (list_map (counted_row hits) keys) refl (each_row hits keys)

any-rows : (hits : Hits) (key : List Part) (keys : List (List Part)) → list_any (λ row. same_key key row.key) (list_map (counted_row hits) keys) ≡ list_any (same_key key) keys
any-rows hits key [] = refl
any-rows hits key (k ∷ keys) = ap (λ (b : Bool). same_key key k || b) (any-rows hits key keys)

module _ (hist : Hist) (hits : Hits) (key : List Part) where
  among-rows : (rows : List Counted) → All (IsOf hits) rows → text_among key (list_map (keyed_text hist) rows) ≡ cond (list_any (λ row. same_key key row.key) rows) (Some (row_text hist (counted_row hits key))) None
  among-rows [] each = refl
  among-rows (row ∷ rows) each = by (same_key key row.key) refl (among-rows rows (λ k d lt. each (suc k) d (omega arith))) where
    by : (b : Bool) → same_key key row.key ≡ b → text_among key (list_map (keyed_text hist) rows) ≡ cond (list_any (λ r. same_key key r.key) rows) (Some (row_text hist (counted_row hits key))) None
        → (if b then Some (row_text hist row) else text_among key (list_map (keyed_text hist) rows)) ≡ cond (b || list_any (λ r. same_key key r.key) rows) (Some (row_text hist (counted_row hits key))) None
    by true same rest = ap (λ (r : Counted). Some (row_text hist r)) (each zero row (omega arith) ∙ ap (counted_row hits) (sym (same_from_tie key_same key row.key same)))
    by false other rest = rest

  text_where : (b : Bool) → cond b (Some (row_text hist (counted_row hits key))) None ≡ option_map (row_text hist) (if b then Some (counted_row hits key) else None)
  text_where true = refl
  text_where false = refl

-- ---- of a table and its tally

module _ (permutation : (sort : List SortItem) (rows : List Counted) → IsPermutation rows (in_order sort rows)) (sorted : (sort : List SortItem) (rows : List Counted) → IsSorted (row_cmp sort) (in_order sort rows))
    (alone : (sort : List SortItem) (rows others : List Counted) → HasDistinctKeys rows → IsPermutation rows others → IsSorted (row_cmp sort) others → others ≡ in_order sort rows) where
  among-table : (hist : Hist) (table : Tabled) (key : List Part) → text_among key (list_map (keyed_text hist) (rows_of table hist.sort)) ≡ option_map (row_text hist) (row_at table key)
  among-table hist table key =
      let rows : List Counted = list_map (counted_row table.hits) (keys_in table) in
      among-rows hist table.hits key (rows_of table hist.sort) (All-permutation (IsOf table.hits) rows (rows_of table hist.sort) (permutation hist.sort rows) (each_row table.hits (keys_in table)))
      ∙ ap (λ (b : Bool). cond b (Some (row_text hist (counted_row table.hits key))) None)
      (sym (list_any-IsPermutation (λ (row : Counted). same_key key row.key) rows (rows_of table hist.sort) (permutation hist.sort rows)) ∙ any-rows table.hits key (keys_in table))
      ∙ text_where hist table.hits key (is_in table key)

  among-tally : (hist : Hist) (table : Tabled) (pairs : List Pair) (key : List Part) → text_among key (tally_row_texts hist (tally_of table pairs)) ≡ tally_row_text hist (tally_of table pairs) key
  unfolding tally_row_texts tally_row_text
  among-tally hist table pairs key =
      ap (λ (rows : List Counted). text_among key (list_map (keyed_text hist) rows)) (rows-tally permutation sorted alone table pairs hist.sort)
      ∙ among-table hist table key ∙ ap (option_map (row_text hist)) (sym (get-tally table pairs key))

  -- ---- of a base

  module _ (first : HeldAreCounted) (held : (triggers : Triggers) (events : Events) → AreTallied triggers events) (made : MadeAreTallied) where
    among-shown : (triggers : Triggers) (events : Events) (id : ℕ) (hist : Hist) (key : List Part) → map.get triggers id ≡ Some hist
        → text_among key (tally_row_texts hist (tally_shown triggers events id hist)) ≡ tally_row_text hist (tally_shown triggers events id hist) key
    among-shown triggers events id hist key there = by (counts_made hist) refl where
      agree : (tally : Tally) (table : Tabled) (pairs : List Pair) → tally ≡ tally_of table pairs → text_among key (tally_row_texts hist tally) ≡ tally_row_text hist tally key
      agree tally table pairs is = ap (λ (t : Tally). text_among key (tally_row_texts hist t)) is ∙ among-tally hist table pairs key ∙ ap (λ (t : Tally). tally_row_text hist t key) (sym is)

      by : (b : Bool) → counts_made hist ≡ b → text_among key (tally_row_texts hist (tally_shown triggers events id hist)) ≡ tally_row_text hist (tally_shown triggers events id hist) key
      by true counts =
          agree (tally_shown triggers events id hist) (table_for hist (made_hits_of triggers events hist)) []
          (shown-made triggers events id hist counts ∙ ap (λ (o : Option Tally). unwrap_or o empty_tally) (made triggers events id hist there))
      by false counts =
          agree (tally_shown triggers events id hist) (table_for hist (replayed_hits triggers events id)) (pairs_of triggers events id)
          (shown-held triggers events id hist counts ∙ ap (λ (s : State). unwrap_or (map.get s.tallies id) empty_tally) (first triggers events)
          ∙ ap (λ (o : Option Tally). unwrap_or o empty_tally) (held triggers events id hist there))

    same_ok : {S : Type 0} (a b : S) → ◌≡◌ {A = Result S Refused} (Ok a) (Ok b) → a ≡ b
    same_ok a b same = cc

    pub row_is_among : RowIsAmong
    unfolding row_texts_shown row_text_shown
    row_is_among base id key rows shown = by (map.get base.triggers id) refl where
      by : (o : Option Hist) → map.get base.triggers id ≡ o → of_attached base.triggers id (λ hist. Ok (tally_row_text hist (tally_shown base.triggers (merged base.lanes) id hist) key)) ≡ Ok (text_among key rows)
      by None none =
          let never : ◌≡◌ {A = Result (List KeyedText) Refused} (Err NoTrigger) (Ok rows) =
          ap (λ (o : Option Hist). let answer : Result (List KeyedText) Refused = option_map_or (λ hist. Ok (tally_row_texts hist (tally_shown base.triggers (merged base.lanes) id hist))) o (Err NoTrigger) in answer) (sym none) ∙ shown in absurd cc
      by (Some hist) there =
          let tally : Tally = tally_shown base.triggers (merged base.lanes) id hist in
          let same : tally_row_texts hist tally ≡ rows =
          same_ok (tally_row_texts hist tally) rows (sym (of_attached-some base.triggers id (λ (h : Hist). Ok (tally_row_texts h (tally_shown base.triggers (merged base.lanes) id h))) hist there) ∙ shown) in
          of_attached-some base.triggers id (λ (h : Hist). Ok (tally_row_text h (tally_shown base.triggers (merged base.lanes) id h) key)) hist there
          ∙ ap (λ (text : Option (List ℕ)). let answer : Result (Option (List ℕ)) Refused = Ok text in answer)
          (sym (among-shown base.triggers (merged base.lanes) id hist key there) ∙ ap (text_among key) same)
