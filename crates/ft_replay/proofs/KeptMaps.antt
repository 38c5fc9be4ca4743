-- Maps with the right look-ups hold a trigger's hits and pairs.
use Rattle.std.proofs.Common.{◌≡◌, ℕ, Bool, true, false, cond, List, [], ◌∷◌, map as list_map, refl, sym, ap, subst, ◌∙◌, Some, None, Option}
use Rattle.std.specs.Prelude.{filter_map, option_and_then, option_map}
use Rattle.std.specs.List.{AllByRecursion, cons_option}
use Rattle.std.specs.List.Sorted.{IsStrictlySortedBy}
use Rattle.std.specs.declared.cmp.Ordering.TheVariants.{Less}
use Rattle.std.specs.Ordering.{eq_by_cmp}
use Rattle.std.specs.Map.{keys_of}
use Rattle.std.specs.FinMap as map
use Rattle.std.specs.FinMap.{FinMap, find, get-from_entries, same_map}
use Rattle.std.proofs.lemmas.Map.Keys.{sorted_head, sorted_tail}
use Rattle.ft_fields.specs.declared.pos.Pos.{Pos}
use Rattle.ft_fields.specs.Places.{pos_cmp, pos_cmp_total, pos_same}
use Rattle.ft_maps.specs.Entries.{entries-from_entries, same_from_tie}
use Rattle.ft_hits.specs.declared.mark.Mark.{Mark}
use Rattle.ft_table.specs.Hits.{Hits}
use Rattle.ft_table.specs.Marks.{mark_cmp_total, mark_same}
use Rattle.ft_replay.specs.declared.pair.Pair.{Pair}
use Rattle.ft_hits.specs.declared.spot.Spot.{Spot}
use Rattle.ft_table.specs.Spots.{traced, spot_cmp, spot_same}
use Rattle.ft_base.specs.Base.{Triggers}
use Rattle.ft_replay.specs.Merged.{Events}
use Rattle.ft_replay.specs.Hits.{TriggerHit, trigger_hits, replayed_hits, pair_of, pairs_of}
use Rattle.ft_replay.specs.Found.{values_found, saving_found, pairs_in}
use Rattle.ft_replay.proofs.Spots.{IsTraced, traced-before, traced-tie}
use Rattle.ft_replay.proofs.Listed.{Ascend, AreBehind, AreTraced, spot_of, hit_in, none_in, trigger_hits_ascend, trigger_hits_traced, hit_in-trigger_hits, get-replayed_hits}

-- the place of a hit with that of the saving that it read, if it read
abbrev reading : TriggerHit → Option (Pos × Pos)
reading found = option_map (λ saved. (found.spot.pos, saved)) found.saved

-- the place of the saving that a hit read
abbrev saved_of : Option TriggerHit → Option Pos
saved_of found = option_and_then (λ found. found.saved) found

-- ---- the readings of hits in order

find-readings : (at : Pos) (hits : List TriggerHit) → Ascend hits → AreTraced hits → find pos_cmp at (filter_map reading hits) ≡ saved_of (hit_in hits (traced at))
find-readings at [] up is = refl
find-readings at (found ∷ hits) up is =
    from found.saved refl (eq_by_cmp pos_cmp at found.spot.pos) refl (find-readings at hits (sorted_tail spot_cmp found.spot (list_map spot_of hits) up) is.1)
    ∙ ap (λ b. saved_of (cond b (Some found) (hit_in hits (traced at)))) (sym (traced-tie at found.spot is.0))
  where
    none_later : eq_by_cmp pos_cmp at found.spot.pos ≡ true → hit_in hits (traced at) ≡ None
    none_later tie =
        let same : traced at ≡ found.spot = same_from_tie spot_same (traced at) found.spot (traced-tie at found.spot is.0 ∙ tie) in
        none_in (traced at) hits (subst (λ s. AreBehind s hits) (sym same) (sorted_head spot_cmp found.spot (list_map spot_of hits) up))

    from : (o : Option Pos) → found.saved ≡ o → (b : Bool) → eq_by_cmp pos_cmp at found.spot.pos ≡ b → find pos_cmp at (filter_map reading hits) ≡ saved_of (hit_in hits (traced at))
        → find pos_cmp at (cons_option (option_map (λ (saved : Pos). (found.spot.pos, saved)) o) (filter_map reading hits)) ≡ saved_of (cond b (Some found) (hit_in hits (traced at)))
    from None none true tie rest = rest ∙ ap saved_of (none_later tie) ∙ sym none
    from None none false apart rest = rest
    from (Some saved) some true tie rest = ap (λ b. cond b (Some saved) (find pos_cmp at (filter_map reading hits))) tie ∙ sym some
    from (Some saved) some false apart rest = ap (λ b. cond b (Some saved) (find pos_cmp at (filter_map reading hits))) apart ∙ rest

readings_behind : (s : Spot) (hits : List TriggerHit) → IsTraced s → AreTraced hits → AreBehind s hits → AllByRecursion (λ q. pos_cmp s.pos q ≡ Less) (keys_of (filter_map reading hits))
readings_behind s [] first is h = tt
readings_behind s (found ∷ hits) first is h = from found.saved (readings_behind s hits first is.1 h.1)
  where
    from : (o : Option Pos) → AllByRecursion (λ q. pos_cmp s.pos q ≡ Less) (keys_of (filter_map reading hits)) → AllByRecursion (λ q. pos_cmp s.pos q ≡ Less) (keys_of (cons_option (option_map (λ (saved : Pos). (found.spot.pos, saved)) o) (filter_map reading hits)))
    from None rest = rest
    from (Some saved) rest = (traced-before s found.spot first is.0 h.0, rest)

readings_ascend : (hits : List TriggerHit) → Ascend hits → AreTraced hits → IsStrictlySortedBy pos_cmp (keys_of (filter_map reading hits))
unfolding IsStrictlySortedBy
readings_ascend [] up is = tt
readings_ascend (found ∷ hits) up is = from found.saved (readings_ascend hits up.1 is.1)
  where
    from : (o : Option Pos) → IsStrictlySortedBy pos_cmp (keys_of (filter_map reading hits)) → IsStrictlySortedBy pos_cmp (keys_of (cons_option (option_map (λ (saved : Pos). (found.spot.pos, saved)) o) (filter_map reading hits)))
    from None rest = rest
    from (Some saved) rest = (readings_behind found.spot hits is.0 is.1 up.0, rest)

-- the pair of a reading's two places
abbrev pub paired : Pos × Pos → Pair
paired e = record { saved = e.1; read = e.0 }

pairs-readings : (hits : List TriggerHit) → list_map paired (filter_map reading hits) ≡ filter_map pair_of hits
pairs-readings [] = refl
pairs-readings (found ∷ hits) = from found.saved (pairs-readings hits)
  where
    from : (o : Option Pos) → list_map paired (filter_map reading hits) ≡ filter_map pair_of hits
        → list_map paired (cons_option (option_map (λ (saved : Pos). (found.spot.pos, saved)) o) (filter_map reading hits)) ≡ cons_option (option_map (λ (saved : Pos). record { saved = saved; read = found.spot.pos }) o) (filter_map pair_of hits)
    from None rest = rest
    from (Some saved) rest = ap (λ (pairs : List Pair). record { saved = saved; read = found.spot.pos } ∷ pairs) rest

-- ---- maps

module _ (triggers : Triggers) (events : Events) (id : ℕ) where
  -- a map that holds what each hit adds is the map of the trigger's hits
  pub values-are : (values : Hits) → ((m : Mark) → map.get values m ≡ values_found triggers events id m) → values ≡ replayed_hits triggers events id
  values-are values is = same_map mark_cmp_total mark_same _ _ (λ m. is m ∙ sym (get-replayed_hits triggers events id m))

  -- the readings of a trigger's hits, by place
  abbrev readings : FinMap pos_cmp Pos
  readings = map.from_entries (filter_map reading (trigger_hits triggers events id))

  get-readings : (at : Pos) → map.get readings at ≡ saving_found triggers events id at
  unfolding saving_found
  get-readings at =
      get-from_entries pos_cmp_total (filter_map reading (trigger_hits triggers events id)) at
      ∙ find-readings at (trigger_hits triggers events id) (trigger_hits_ascend triggers events id) (trigger_hits_traced triggers events id) ∙ ap saved_of (hit_in-trigger_hits triggers events id (traced at))

  pairs-readings_of : pairs_of triggers events id ≡ pairs_in readings
  unfolding pairs_of
  pairs-readings_of =
      sym (ap (list_map paired) (entries-from_entries pos_cmp_total (filter_map reading (trigger_hits triggers events id)) (readings_ascend (trigger_hits triggers events id) (trigger_hits_ascend triggers events id) (trigger_hits_traced triggers events id)))
      ∙ pairs-readings (trigger_hits triggers events id))

  -- a trigger's pairs are those of a map that holds what each reading found
  pub pairs-found : (found : FinMap pos_cmp Pos) × (((at : Pos) → map.get found at ≡ saving_found triggers events id at) × (pairs_of triggers events id ≡ pairs_in found))
  pairs-found = (readings, (get-readings, pairs-readings_of))

  -- and there is no other such map
  pub pairs-are : (found : FinMap pos_cmp Pos) → ((at : Pos) → map.get found at ≡ saving_found triggers events id at) → pairs_in found ≡ pairs_of triggers events id
  pairs-are found is = ap pairs_in (same_map pos_cmp_total pos_same found readings (λ at. is at ∙ sym (get-readings at))) ∙ sym pairs-readings_of
