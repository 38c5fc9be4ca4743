-- What replaying counts at a trigger, in the words of its table.
use Rattle.std.proofs.Common.{◌≡◌, ℕ, false, List, sym, ap, ◌∙◌, Some}
use Rattle.std.specs.Prelude.{◌↔◌, IsTrue}
use Rattle.std.specs.Option.{option_map_or}
use Rattle.std.specs.FinMap as map
use Rattle.std.specs.FinMap.{FinMap}
use Rattle.ft_fields.specs.declared.pos.Pos.{Pos}
use Rattle.ft_fields.specs.Places.{pos_cmp}
use Rattle.ft_fields.specs.declared.key.Part.{Part}
use Rattle.ft_hist.specs.Hist.{Hist}
use Rattle.ft_hits.specs.declared.mark.Mark.{Mark}
use Rattle.ft_table.specs.Admission.{InByRank, IsAmongFirst}
use Rattle.ft_table.specs.Growth.{InGrows, RowsGrow, TotalsGrow}
use Rattle.ft_table.specs.Hits.{Hits}
use Rattle.ft_table.specs.Tabled.{is_in}
use Rattle.ft_base.specs.Base.{Triggers}
use Rattle.ft_replay.specs.Merged.{Events}
use Rattle.ft_replay.specs.Hits.{trigger_hits, replayed_hits, pairs_of, table_for}
use Rattle.ft_replay.specs.Found.{values_found, saving_found, pairs_in}
use Rattle.ft_replay.specs.Operations.{is_admitted}
use Rattle.ft_replay.specs.Replay.{replay}
use Rattle.ft_replay.specs.Tally.{Tally, tally_of}
use Rattle.ft_replay.proofs.Growing.{contains-tally}
use Rattle.ft_replay.proofs.KeptMaps.{values-are, pairs-are}
use Rattle.ft_replay.proofs.Listed.{trigger_hits_ascend}
use Rattle.ft_replay.proofs.OneByOne.{replayed_tally}
use Rattle.ft_replay.proofs.Tallied.{counted-tally}

module _ (rows : RowsGrow) (totals : TotalsGrow) (members : InGrows) (triggers : Triggers) (events : Events) (id : ℕ) (hist : Hist) (attached : map.get triggers id ≡ Some hist) where
  -- replaying gives a trigger the tally of its hits and its pairs
  pub tally-replayed : map.get (replay triggers events).tallies id ≡ Some (tally_of (table_for hist (replayed_hits triggers events id)) (pairs_of triggers events id))
  unfolding replayed_hits pairs_of
  tally-replayed = replayed_tally triggers events id hist attached ∙ ap Some (counted-tally rows totals members hist.size (trigger_hits triggers events id) (trigger_hits_ascend triggers events id))

  -- and so the tally of maps with the right look-ups
  pub tally-kept : (values : Hits) → ((m : Mark) → map.get values m ≡ values_found triggers events id m)
      → (readings : FinMap pos_cmp Pos) → ((at : Pos) → map.get readings at ≡ saving_found triggers events id at)
      → map.get (replay triggers events).tallies id ≡ Some (tally_of (table_for hist values) (pairs_in readings))
  tally-kept values hits readings pairs =
      tally-replayed ∙ (λ i. Some (tally_of (table_for hist (sym (values-are triggers events id values hits) i)) (sym (pairs-are triggers events id readings pairs) i)))

  -- a key is admitted exactly if it is in the trigger's table
  pub admitted-in : (key : List Part) → is_admitted (replay triggers events) id key ≡ is_in (table_for hist (replayed_hits triggers events id)) key
  unfolding is_admitted
  admitted-in key =
      ap (λ o. option_map_or (λ (tally : Tally). map.contains_key tally.table key) o false) tally-replayed
      ∙ contains-tally (table_for hist (replayed_hits triggers events id)) (pairs_of triggers events id) key

  -- a key is admitted exactly if it has a hit and fewer than `size` other keys have an earlier first one
  pub admitted-rank : InByRank → (key : List Part) → IsTrue (is_admitted (replay triggers events) id key) ↔ IsAmongFirst (table_for hist (replayed_hits triggers events id)) key
  admitted-rank rank key =
      let in_first = rank (table_for hist (replayed_hits triggers events id)) key in
      (λ admitted. in_first.0 (sym (admitted-in key) ∙ admitted), λ first. admitted-in key ∙ in_first.1 first)
