-- The table of a trigger that counts made events, from the counters of a whole replay.
use Rattle.std.proofs.Common.{◌≡◌, ℕ, sym, ap, ◌∙◌, Some, Option}
use Rattle.std.specs.Prelude.{List, [], option_map, unwrap_or}
use Rattle.std.specs.Option.{option_map_or}
use Rattle.std.specs.Cmp.{nat_cmp_total}
use Rattle.std.specs.FinMap as map
use Rattle.std.specs.FinMap.{FinMap}
use Rattle.ft_fields.specs.Places.{pos_cmp}
use Rattle.ft_fields.specs.declared.pos.Pos.{Pos}
use Rattle.ft_hist.specs.Hist.{Hist}
use Rattle.ft_maps.specs.Mapped.{map_by, get-map_by}
use Rattle.ft_table.specs.Rows.{AllFit}
use Rattle.ft_table.specs.Tabled.{Tabled}
use Rattle.ft_hist.specs.Triggers.{Triggers}
use Rattle.ft_replay.specs.declared.pair.Pair.{Pair}
use Rattle.ft_replay.specs.Merged.{Events}
use Rattle.ft_replay.specs.Counters.{Counting, Counters, tally_in, HasCounter, HaveCounters}
use Rattle.ft_replay.specs.Found.{saving_found, pairs_in}
use Rattle.ft_replay.specs.Hits.{replayed_hits, pairs_of, table_for}
use Rattle.ft_replay.specs.Replay.{replay}
use Rattle.ft_replay.specs.Tally.{Tally, empty_tally, tally_of}
use Rattle.ft_replay.proofs.Growing.{pairs-tally}
use Rattle.ft_made.specs.Laws.{MadeTablesFit}
use Rattle.ft_made.specs.MadeTables.{IsMadeTable, ArePairsOf, AreReplayed, found_in}
use Rattle.ft_answers.specs.inner.Readings.{pairs_by}

-- the tally of each attached trigger is that of a table with the pairs of its readings
abbrev pub AreTallied : Triggers → Events → Type 0
AreTallied triggers events = (id : ℕ) (hist : Hist) → map.get triggers id ≡ Some hist
    → map.get (replay triggers events).tallies id ≡ Some (tally_of (table_for hist (replayed_hits triggers events id)) (pairs_of triggers events id))

-- these are, in merged order, what the readings found
abbrev pub AreRead : Triggers → Events → Type 0
AreRead triggers events = (id : ℕ) → (readings : FinMap pos_cmp Pos) × (((at : Pos) → map.get readings at ≡ saving_found triggers events id at) × (pairs_of triggers events id ≡ pairs_in readings))

module _ (triggers : Triggers) (events : Events) (counters : Counters) (tallies : map_by tally_in counters ≡ (replay triggers events).tallies) (complete : HaveCounters triggers counters) (tallied : AreTallied triggers events) where
  -- counters have the pairs of the replay
  pub are_replayed : AreReplayed triggers events (pairs_by counters)
  are_replayed id hist there =
      let has : HasCounter triggers counters id hist = complete id hist there in
      let table : Tabled = table_for hist (replayed_hits triggers events id) in
      let pairs : List Pair = pairs_of triggers events id in
      let told : map.get (replay triggers events).tallies id ≡ Some (tally_in has.counter) = ap (λ found. map.get found id) (sym tallies) ∙ get-map_by tally_in nat_cmp_total counters id ∙ ap (option_map tally_in) has.there in
      let same : tally_in has.counter ≡ tally_of table pairs = ap (λ (o : Option Tally). unwrap_or o empty_tally) (sym told ∙ tallied id hist there) in
      ap (λ (o : Option Counting). option_map_or (λ counter. counter.pairs) o []) has.there
      ∙ sym (pairs-tally has.counter.table has.counter.pairs) ∙ ap (λ (t : Tally). t.pairs) same ∙ pairs-tally table pairs

  -- the keys of a table that is told of them fit its trigger
  pub made_fits : MadeTablesFit → AreRead triggers events → (hist : Hist) (table : Tabled)
      → ((found : ℕ → FinMap pos_cmp Pos) → ArePairsOf triggers (pairs_by counters) found → IsMadeTable triggers events (found_in found) hist table) → AllFit table hist
  made_fits law read hist table is = law triggers events (found_in (λ id. (read id).0)) hist table (is (λ id. (read id).0) (λ id other there. are_replayed id other there ∙ (read id).1.1))
