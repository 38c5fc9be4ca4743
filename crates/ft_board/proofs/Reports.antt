-- What the reports of an edit say of the bases before and after it, by the shelves and the tables of made events that are kept of them.
use Rattle.std.proofs.Common.{◌≡◌, ℕ, ◌≤◌, ◌+◌, ◌*◌, Bool, true, false, length, refl, sym, ap, subst, ◌∙◌, Option, Some, List, [], None, unwrap_or, Ok}
use Rattle.std.specs.Prelude.{option_and_then, if◌then◌else◌}
use Rattle.std.specs.List.{filter}
use Rattle.std.specs.Cmp.{nat_eq_equiv}
use Rattle.std.specs.FinMap as map
use Rattle.ft_pairs.specs.declared.role.Role.{Role}
use Rattle.ft_pairs.specs.declared.role.Role.TheVariants.{Plain, Saves, Reads}
use Rattle.ft_table.specs.Rows.{row_at}
use Rattle.ft_changes.specs.Reports.{is_reported, reported_of}
use Rattle.ft_changes.specs.Rivals.{is_of}
use Rattle.ft_kept.specs.Changes.{AreFew, is_reader_of}
use Rattle.ft_kept.specs.Shelves.{role_on, Shelved, Shelves}
use Rattle.ft_kept.specs.Laws.{OthersStay, ReportedOnce, TwoReported, ReaderReported, readers_of}
use Rattle.ft_kept.specs.Report.{keys_reported, row_on, report_of}
use Rattle.ft_kept.specs.Touched.{named_keys}
use Rattle.ft_kept.proofs.Rows.{whose}
use Rattle.ft_base.specs.OneTrigger.{reads_from}
use Rattle.ft_base.specs.Roles.{role_at}
use Rattle.ft_replay.specs.Replay.{replay}
use Rattle.ft_replay.specs.Tally.{Tally, empty_tally, tally_of}
use Rattle.ft_replay.proofs.Growing.{get-tally}
use Rattle.ft_made.specs.Laws.{HeldAreCounted, TablesAreTallied}
use Rattle.ft_answers.specs.Answers.{tally_at}
use Rattle.ft_answers.specs.Reporting.{readers_in, row_in, IsMadeReport, IsReport, Reports, made_row_in}
use Rattle.ft_repair.proofs.KeptFor.{its_shelf, shelves_roles}
use Rattle.ft_board.specs.inner.Reported.{RepairsReported}
use Rattle.ft_board.proofs.KeptBoardTold.{tally-first, kept_shown, none_is}
use Rattle.std.specs.Option.{IfSome}
use Rattle.std.proofs.lemmas.Bool.{true≢false}
use Rattle.ft_answers.specs.declared.done.Done.{Done}
use Rattle.ft_answers.specs.declared.edited.Edited.{Edited}
use Rattle.ft_board.specs.declared.views.Views.{Views}
use Rattle.ft_answers.specs.Shown.{Shown}
use Rattle.ft_base.specs.Base.{Base, Triggers}
use Rattle.ft_board.specs.MadeShelves.{AreMade, AreMadeBy, made_on, MadeTables}
use Rattle.ft_board.specs.inner.MadeRows.{AreUpdatedRows}
use Rattle.ft_board.specs.inner.Readings.{readings_on}
use Rattle.ft_changes.specs.declared.changed.Changed.{Changed}
use Rattle.ft_fields.specs.declared.key.Part.{Part}
use Rattle.ft_hist.specs.Hist.{Hist}
use Rattle.ft_hist.specs.Made.{counts_made}
use Rattle.ft_kept.specs.declared.changes.KeyChange.{KeyChange}
use Rattle.ft_made.specs.MadeTables.{found_in}
use Rattle.ft_repair.specs.KeptShelves.{AreKept, AreKeptOf}
use Rattle.ft_replay.specs.Found.{pairs_in, saving_found}
use Rattle.ft_replay.specs.Merged.{Events, merged}
use Rattle.ft_board.specs.inner.Edits.{Edit, ReportsEdit}

-- ---- rows

-- kept shelves give the tallies that replaying gives
abbrev pub TalliesAre : Type 0
TalliesAre = (triggers : Triggers) (events : Events) (shelves : Shelves) → AreKept triggers events shelves → (id : ℕ) (hist : Hist) (shelf : Shelved)
    → map.get triggers id ≡ Some hist → map.get shelves id ≡ Some shelf → map.get (replay triggers events).tallies id ≡ Some (tally_of shelf.table (pairs_in shelf.readings))

-- so the row of a key that replaying gives is that on the shelf
pub row_kept : TalliesAre → HeldAreCounted → (triggers : Triggers) (events : Events) (shelves : Shelves) → AreKept triggers events shelves → (id : ℕ) (hist : Hist) → map.get triggers id ≡ Some hist
    → (key : List Part) → map.get (tally_at triggers events id).table key ≡ row_on shelves id key
row_kept tallies first triggers events shelves kept id hist there key =
    let has = its_shelf triggers shelves kept.each id hist there in
    ap (λ (t : Tally). map.get t.table key) (tally-first triggers events id first (tally_of has.0.table (pairs_in has.0.readings)) (tallies triggers events shelves kept id hist has.0 there has.1.0))
    ∙ get-tally has.0.table (pairs_in has.0.readings) key
    ∙ sym (ap (λ (o : Option Shelved). option_and_then (λ (s : Shelved). row_at s.table key) o) has.1.0)

-- ---- whose rows are reported

held_if : (own : Bool) (keys : List (List Part)) (key : List Part) → is_of (if own then [] else keys) key ≡ true → own ≡ false
held_if true keys key none = sym none
held_if false keys key is = refl

-- each reported row is of an attached trigger that counts held events
reported_held : (triggers : Triggers) (shelves : Shelves) (told : List KeyChange) (id : ℕ) (key : List Part) → is_reported (report_of triggers shelves told) id key ≡ true → (hist : Hist) × ((map.get triggers id ≡ Some hist) × (counts_made hist ≡ false))
unfolding report_of
reported_held triggers shelves told id key is =
    let its = whose (keys_reported shelves told) triggers id key is in
    (its.0, (its.1.0, held_if (counts_made its.0) (named_keys shelves told id) key its.1.1))

-- ---- how many triggers read

-- by the triggers' roles, and by those of the shelves
same_reader : (saver : ℕ) (role : Role) → is_reader_of saver role ≡ reads_from saver role
same_reader saver Plain = refl
same_reader saver Saves = refl
same_reader saver (Reads id) = nat_eq_equiv.symm saver id

readers_same : (triggers : Triggers) (saver : ℕ) → readers_of (role_at triggers) triggers saver ≡ readers_in triggers saver
unfolding readers_of readers_in
readers_same triggers saver = ap (λ (f : ℕ → Bool). length (filter (λ (t : ℕ × Hist). f t.0) (map.entries triggers))) (λ i id. same_reader saver (role_at triggers id) i)

-- ---- the report of bases

module _ (tallies : TalliesAre) (first : HeldAreCounted) (others : OthersStay) (once : ReportedOnce) (two : TwoReported) (reader : ReaderReported) where
  row_of_base : (base : Base) (shelves : Shelves) → AreKeptOf base shelves → (id : ℕ) (hist : Hist) → map.get base.triggers id ≡ Some hist → (key : List Part) → row_in base id key ≡ row_on shelves id key
  unfolding row_in
  row_of_base base shelves are id hist there key = row_kept tallies first base.triggers (merged base.lanes) shelves are id hist there key

  -- the report of keys under which hits may have changed is one of the bases
  pub repairs_reported : RepairsReported
  repairs_reported old new before behind keys same kept later forms but few =
      let roles : role_on behind ≡ role_at old.triggers = shelves_roles new.triggers behind later.each ∙ ap role_at same in
      let its : (id : ℕ) → role_on behind id ≡ role_at old.triggers id = λ id. ap (λ (role : ℕ → Role). role id) roles in
      let few_now : AreFew (role_on behind) (map.entries old.triggers) keys =
      subst (λ (role : ℕ → Role). AreFew role (map.entries old.triggers) keys) (shelves_roles old.triggers before kept.each ∙ sym roles) few in
      record {
        once = once old.triggers behind keys;
        held = λ id key is. reported_held old.triggers behind keys id key is;
        all = λ id hist there held key none.
            row_of_base new behind later id hist (ap (λ (ts : Triggers). map.get ts id) same ∙ there) key
            ∙ others old.triggers keys before behind forms but id hist key there held none
            ∙ sym (row_of_base old before kept id hist there key);
        two = λ id none. two old.triggers behind keys few_now id (λ saver reads. none saver (sym (its id) ∙ reads));
        reader = λ id saver reads.
            subst (λ (n : ℕ). reported_of (report_of old.triggers behind keys) id ≤ 4 + 2 * n) (ap (λ (role : ℕ → Role). readers_of role old.triggers saver) roles ∙ readers_same old.triggers saver)
            (reader old.triggers behind keys few_now id saver (its id ∙ reads));
      }

module _ (tallied : TablesAreTallied) where
  -- the row of a key that replaying gives is that of the table of made events
  made_row : (base : Base) (made : MadeTables) → AreMade base made → (id : ℕ) (hist : Hist) → map.get base.triggers id ≡ Some hist → counts_made hist ≡ true
      → (key : List Part) → made_row_in base id key ≡ row_at (made_on made id hist) key
  unfolding made_row_in
  made_row base made are id hist there counts key =
      ap (λ (o : Option Tally). map.get (unwrap_or o empty_tally).table key)
      (tallied base.triggers (merged base.lanes) (saving_found base.triggers (merged base.lanes)) (λ other its attached pos. refl) id hist there (made_on made id hist) (are id hist there counts))
      ∙ get-tally (made_on made id hist) [] key

  module _ (base mid new : Base) (same_mid : mid.triggers ≡ base.triggers) (same_new : new.triggers ≡ base.triggers) where
    -- rows that were told before tables were mended are a report of the bases
    rows_reported : (shelves : Shelves) (before after : MadeTables) → AreMade base before → AreMade new after
        → AreMadeBy mid.triggers (merged mid.lanes) (found_in (readings_on shelves)) after
        → (rows : List Changed) → AreUpdatedRows mid.triggers (merged mid.lanes) (found_in (readings_on shelves)) before rows → IsMadeReport base new rows
    rows_reported shelves before after was is updates rows told = record {
      once = told.once;
      made = λ id key some. let its = told.counted id key some in (its.0, (ap (λ (ts : Triggers). map.get ts id) (sym same_mid) ∙ its.1.0, its.1.1));
      all = λ id hist there counts key none.
          let there_mid : map.get mid.triggers id ≡ Some hist = ap (λ (ts : Triggers). map.get ts id) same_mid ∙ there in
          made_row new after is id hist (ap (λ (ts : Triggers). map.get ts id) same_new ∙ there) counts key
          ∙ told.all id hist there_mid counts (made_on after id hist) (updates id hist there_mid counts) key none
          ∙ sym (made_row base before was id hist there counts key);
    }

    -- and so they are if shelves are kept all along; otherwise none are told
    pub told_made : {V : Type 0} (rows : Option V) (items : V → List Changed) (old mended : Option Shelves) (before after : MadeTables) → IfSome old (λ _. AreMade base before) → (old ≡ None → mended ≡ None)
        → IfSome mended (λ _. AreMade new after) → IfSome mended (λ shelves. AreMadeBy mid.triggers (merged mid.lanes) (found_in (readings_on shelves)) after)
        → IfSome mended (λ shelves. IfSome rows (λ r. AreUpdatedRows mid.triggers (merged mid.lanes) (found_in (readings_on shelves)) before (items r)))
        → IfSome (option_and_then (λ _. rows) mended) (λ r. IsMadeReport base new (items r))
    told_made rows items old None before after was gone is updates told = tt
    told_made None items old (Some mended) before after was gone is updates told = tt
    told_made (Some rows) items None (Some mended) before after was gone is updates told = let both : ◌≡◌ {A = Option Shelves} (Some mended) None = gone refl in absurd cc
    told_made (Some rows) items (Some old) (Some mended) before after was gone is updates told = rows_reported mended before after was is updates (items rows) told

-- ---- what a board reports

-- the reports of an edit are those of a board that shows the base before
pub board_reports : (edit : Edit) (views : Views) (done : Done Edited) (shown : Shown) → shown.base ≡ edit.old → ReportsEdit edit views done.value → Reports shown (kept_shown edit.new views.shelves views.work) (Ok done)
board_reports edit views done shown is told = (
  (
    subst (λ (b : Base). IfSome done.value.report (λ rows. IsReport b edit.new rows.items)) (sym is) told.0.0,
    λ up. told.0.1 (none_is views.shelves up),
    λ unkept. absurd (true≢false unkept),
  ),
  (
    subst (λ (b : Base). IfSome done.value.made (λ rows. IsMadeReport b edit.new rows.items)) (sym is) told.1.0,
    (λ up. told.1.1 (none_is views.shelves up), λ unkept. absurd (true≢false unkept)),
  ),
)
