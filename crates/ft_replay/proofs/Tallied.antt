-- Hits counted one by one come to the tally of their map.
use Rattle.std.proofs.Common.{◌≡◌, ℕ, Bool, true, false, cond, List, [], ◌∷◌, ◌++◌, map as list_map, refl, sym, ap, subst, ◌∙◌, Some, None, Option}
use Rattle.std.specs.Prelude.{ℤ, fold, filter_map, is_some}
use Rattle.std.specs.List.{AllByRecursion}
use Rattle.std.specs.declared.cmp.Ordering.TheVariants.{Less}
use Rattle.std.specs.Ordering.{is_lt, eq_by_cmp, ordering_then}
use Rattle.std.specs.FinMap as map
use Rattle.std.specs.FinMap.{find, get-empty, get-from_entries, get-insert, same_map}
use Rattle.std.proofs.lemmas.Cmp.{tied_itself}
use Rattle.std.proofs.lemmas.List.{append-nil, append_assoc}
use Rattle.std.proofs.lemmas.Map.Keys.{sorted_head, sorted_tail}
use Rattle.ft_fields.specs.declared.pos.Pos.{Pos}
use Rattle.ft_fields.specs.Parts.{key_cmp}
use Rattle.ft_maps.specs.Entries.{same_from_tie}
use Rattle.ft_hits.specs.declared.mark.Mark.{Mark}
use Rattle.ft_table.specs.Growth.{AreBefore, ComesLast, InGrows, RowsGrow, TotalsGrow}
use Rattle.ft_table.specs.Hits.{Hits}
use Rattle.ft_table.specs.Marks.{mark_cmp, mark_cmp_total, mark_same}
use Rattle.ft_table.specs.Spots.{spot_cmp}
use Rattle.ft_table.specs.Tabled.{Tabled}
use Rattle.ft_replay.specs.declared.pair.Pair.{Pair}
use Rattle.ft_replay.specs.Hits.{TriggerHit, entry_of, pair_of}
use Rattle.ft_replay.specs.Tally.{tally_of}
use Rattle.ft_replay.proofs.Places.{or_none}
use Rattle.ft_replay.proofs.Counted.{counted, counted_all}
use Rattle.ft_replay.specs.inner.Replaying.{pairs_with}
use Rattle.ft_replay.proofs.Growing.{tally-empty, tally_grows_with}
use Rattle.ft_replay.proofs.Listed.{Ascend, AreBehind, spot_of, find-entries, none_in, values_under}

-- where a hit stands in a map of hits
abbrev pub mark_of : TriggerHit → Mark
mark_of found = (entry_of found).0

-- a map of hits with some more, put in one by one
abbrev pub with_all : Hits → List TriggerHit → Hits
with_all hits found = fold (λ hits found. map.insert hits (mark_of found) found.values) hits found

-- all hits of the map stand before each of the list
abbrev AllBefore : Hits → List TriggerHit → Type 0
AllBefore hits found = AllByRecursion (λ found. AreBefore hits (mark_of found)) found

-- ---- a map that grows at its end

-- if all hits stand before a mark, a hit there comes last
comes_last : (table : Tabled) (m : Mark) → AreBefore table.hits m → ComesLast table m
comes_last table m before = record { absent = from (map.get table.hits m) refl; last = before }
  where
    from : (o : Option (List ℤ)) → map.get table.hits m ≡ o → o ≡ None
    from None e = refl
    from (Some v) e =
        absurd (let less : is_lt (mark_cmp m m) ≡ true = ap is_lt (before m (ap is_some e)) in let tied : is_lt (mark_cmp m m) ≡ false = ap is_lt (tied_itself mark_cmp_total m) in cc)

before_more : (hits : Hits) (m : Mark) (v : List ℤ) (later : Mark) → AreBefore hits later → mark_cmp m later ≡ Less → AreBefore (map.insert hits m v) later
before_more hits m v later before less q there = from (eq_by_cmp mark_cmp q m) refl (sym (ap is_some (get-insert mark_cmp_total hits m v q)) ∙ there)
  where
    from : (b : Bool) → eq_by_cmp mark_cmp q m ≡ b → is_some (cond b (Some v) (map.get hits q)) ≡ true → mark_cmp q later ≡ Less
    from true tie there = ap (λ x. mark_cmp x later) (same_from_tie mark_same q m tie) ∙ less
    from false apart there = before q there

-- a hit at an earlier spot stands before
by_spot : (m : Mark) (found : TriggerHit) → spot_cmp m.spot found.spot ≡ Less → mark_cmp m (mark_of found) ≡ Less
by_spot m found less = ap (λ o. ordering_then o (key_cmp m.key found.key)) less

before_all : (hits : Hits) (m : Mark) (v : List ℤ) (found : List TriggerHit) → AllBefore hits found → AreBehind m.spot found → AllBefore (map.insert hits m v) found
before_all hits m v [] before behind = tt
before_all hits m v (first ∷ found) before behind = (before_more hits m v (mark_of first) before.0 (by_spot m first behind.0), before_all hits m v found before.1 behind.1)

none_before : (found : List TriggerHit) → AllBefore map.empty found
none_before [] = tt
none_before (first ∷ found) = ((λ q there. absurd (let gone : is_some (map.get (map.empty {X = List ℤ} {R = mark_cmp}) q) ≡ false = ap is_some (get-empty mark_cmp q) in cc)), none_before found)

-- ---- the map of all hits

-- the first of two that is there
abbrev or_else : Option (List ℤ) → Option (List ℤ) → Option (List ℤ)
or_else None y = y
or_else (Some x) y = Some x

get-with_all : (hits : Hits) (found : List TriggerHit) → Ascend found → (q : Mark) → map.get (with_all hits found) q ≡ or_else (find mark_cmp q (list_map entry_of found)) (map.get hits q)
get-with_all hits [] up q = refl
get-with_all hits (first ∷ found) up q =
    get-with_all (map.insert hits (mark_of first) first.values) found (sorted_tail spot_cmp first.spot (list_map spot_of found) up) q
    ∙ ap (or_else (find mark_cmp q (list_map entry_of found))) (get-insert mark_cmp_total hits (mark_of first) first.values q)
    ∙ from (eq_by_cmp mark_cmp q (mark_of first)) refl
  where
    from : (b : Bool) → eq_by_cmp mark_cmp q (mark_of first) ≡ b
        → or_else (find mark_cmp q (list_map entry_of found)) (cond b (Some first.values) (map.get hits q)) ≡ or_else (cond b (Some first.values) (find mark_cmp q (list_map entry_of found))) (map.get hits q)
    from true tie =
        let at : q ≡ mark_of first = same_from_tie mark_same q (mark_of first) tie in
        let none : find mark_cmp q (list_map entry_of found) ≡ None =
        find-entries q found (sorted_tail spot_cmp first.spot (list_map spot_of found) up)
        ∙ ap (values_under q.key) (none_in q.spot found (subst (λ (m : Mark). AreBehind m.spot found) (sym at) (sorted_head spot_cmp first.spot (list_map spot_of found) up))) in
        ap (λ o. or_else o (Some first.values)) none
    from false apart = refl

-- hits put in one by one are the map of all
pub with_all-map : (found : List TriggerHit) → Ascend found → with_all map.empty found ≡ map.from_entries (list_map entry_of found)
with_all-map found up =
    same_map mark_cmp_total mark_same _ _ (λ q.
    get-with_all map.empty found up q ∙ ap (or_else (find mark_cmp q (list_map entry_of found))) (get-empty mark_cmp q)
    ∙ or_none (find mark_cmp q (list_map entry_of found)) ∙ sym (get-from_entries mark_cmp_total (list_map entry_of found) q))

-- ---- pairs

-- the pairs of a hit and of those after it
more_pairs : (pairs : List Pair) (first : TriggerHit) (found : List TriggerHit) → pairs_with first.spot.pos first.saved pairs ++ filter_map pair_of found ≡ pairs ++ filter_map pair_of (first ∷ found)
more_pairs pairs first found = from first.saved
  where
    from : (o : Option Pos) → pairs_with first.spot.pos o pairs ++ filter_map pair_of found ≡ pairs ++ filter_map pair_of (record first { saved = o } ∷ found)
    from None = refl
    from (Some saved) = append_assoc pairs (record { saved = saved; read = first.spot.pos } ∷ []) (filter_map pair_of found)

-- ---- tallies

module _ (rows : RowsGrow) (totals : TotalsGrow) (members : InGrows) (size : ℕ) where
  abbrev tabled : Hits → Tabled
  tabled hits = record { hits = hits; size = size }

  -- hits after those of a map, counted one by one, come to the tally of all
  counted_behind : (hits : Hits) (pairs : List Pair) (found : List TriggerHit) → AllBefore hits found → Ascend found
      → fold (counted size) (tally_of (tabled hits) pairs) found ≡ tally_of (tabled (with_all hits found)) (pairs ++ filter_map pair_of found)
  counted_behind hits pairs [] before up = ap (tally_of (tabled hits)) (sym (append-nil pairs))
  counted_behind hits pairs (first ∷ found) before up =
      ap (λ t. fold (counted size) t found) (sym (tally_grows_with rows totals members (tabled hits) (mark_of first) first.values (comes_last (tabled hits) (mark_of first) before.0) first.spot.pos first.saved pairs))
      ∙ counted_behind (map.insert hits (mark_of first) first.values) (pairs_with first.spot.pos first.saved pairs) found
      (before_all hits (mark_of first) first.values found before.1 (sorted_head spot_cmp first.spot (list_map spot_of found) up)) (sorted_tail spot_cmp first.spot (list_map spot_of found) up)
      ∙ ap (tally_of (tabled (with_all (map.insert hits (mark_of first) first.values) found))) (more_pairs pairs first found)

  -- hits in order, counted one by one, come to the tally of their map
  pub counted-tally : (found : List TriggerHit) → Ascend found → counted_all size found ≡ tally_of (record { hits = map.from_entries (list_map entry_of found); size = size }) (filter_map pair_of found)
  counted-tally found up =
      ap (λ t. fold (counted size) t found) (sym (tally-empty size))
      ∙ counted_behind map.empty [] found (none_before found) up
      ∙ ap (λ hits. tally_of (tabled hits) (filter_map pair_of found)) (with_all-map found up)
