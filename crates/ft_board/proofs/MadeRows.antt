-- Rows of tables of made events that may differ as these are mended: which ones are told, and that no other differs. Tables that stay.
use Rattle.std.proofs.Common.{◌≡◌, ◌⊎◌, inl, inr, true, false, List, [], refl, sym, ap, subst, ◌∙◌}
use Rattle.std.specs.Prelude.{ℕ, Bool, if◌then◌else◌}
use Rattle.std.specs.List.{IsDistinct}
use Rattle.std.specs.FinMap.{same_map}
use Rattle.std.proofs.lemmas.Bool.{true≢false}
use Rattle.ft_fields.specs.Parts.{same_key}
use Rattle.ft_changes.specs.Findings.{Findings, Lead}
use Rattle.ft_changes.specs.Rivals.{is_of, rivals, ButForAmong, RivalsAreOthers, RivalsDiffer, RowsStayBut}
use Rattle.ft_hits.specs.Marks.{mark_cmp_total, mark_same}
use Rattle.ft_table.specs.Rows.{row_at}
use Rattle.ft_kept.specs.Touched.{each_once}
use Rattle.ft_kept.proofs.Once.{each_distinct, neither, of_each_once, rivals_once}
use Rattle.ft_kept.proofs.Rows.{not_reported, once, whose}
use Rattle.ft_made.specs.Laws.{KeysAreUpdated, UpdatedButForKeys}
use Rattle.ft_made.specs.Updating.{changed_keys}
use Rattle.ft_board.specs.inner.MadeRows.{keys_named, updated_rows, AreUpdatedRows, keys_counted}
use Rattle.ft_made.proofs.Same.{none_makes}
use Rattle.ft_answers.specs.Counting.{CountNone}
use Rattle.ft_base.specs.Base.{Triggers}
use Rattle.ft_board.specs.MadeShelves.{AreMadeBy, made_on, MadeTables}
use Rattle.ft_changes.specs.declared.changed.ReadingChange.{ReadingChange}
use Rattle.ft_fields.specs.declared.key.Part.{Part}
use Rattle.ft_hist.specs.Hist.{Hist}
use Rattle.ft_hist.specs.Made.{counts_made}
use Rattle.ft_made.specs.MadeTables.{IsMadeTable}
use Rattle.ft_made.specs.Making.{MakeNone}
use Rattle.ft_replay.specs.Merged.{Events}
use Rattle.ft_table.specs.Tabled.{Tabled}
use Rattle.ft_board.proofs.MadeShelves.{table_stays}

-- there is one table of what readings make
one_table : (triggers : Triggers) (events : Events) (found : Findings) (hist : Hist) (a b : Tabled) → IsMadeTable triggers events found hist a → IsMadeTable triggers events found hist b → b ≡ a
one_table triggers events found hist a b was is = λ i. record {
  hits = same_map mark_cmp_total mark_same b.hits a.hits (λ mark. is.hits mark ∙ sym (was.hits mark)) i;
  size = (is.size ∙ sym was.size) i;
}

module _ (triggers : Triggers) (events : Events) (made : MadeTables) where
  -- if no reading changed, the tables are those of what readings find
  pub still_made : (found now : Findings) → Lead [] found now → AreMadeBy triggers events found made → AreMadeBy triggers events now made
  still_made found now same are = subst (λ (f : Findings). AreMadeBy triggers events f made) (λ i id pos. sym (same id pos) i) are

  -- and if no event is made, or none is counted, they are those of any findings
  pub made_of_any : (found now : Findings) → MakeNone triggers ⊎ CountNone triggers → AreMadeBy triggers events found made → AreMadeBy triggers events now made
  made_of_any found now (inl none) are id hist there counts =
      table_stays triggers triggers events events found now (λ spot. none_makes triggers events spot none (now spot.maker spot.pos) ∙ sym (none_makes triggers events spot none (found spot.maker spot.pos))) hist (made_on made id hist) (are id hist there counts)
  made_of_any found now (inr none) are id hist there counts = absurd (true≢false (sym counts ∙ none id hist there))

  -- then no row differs
  pub no_rows : (now : Findings) → AreMadeBy triggers events now made → AreUpdatedRows triggers events now made []
  unfolding IsDistinct
  no_rows now are = record {
    once = tt;
    counted = λ id key is. let both : ◌≡◌ {A = Bool} false true = is in absurd cc;
    all = λ id hist there counts after is key _. ap (λ (t : Tabled). row_at t key) (one_table triggers events now hist _ after (are id hist there counts) is);
  }

-- if something is named that is named only on a condition, the condition holds
cond_holds : (named : List (List Part)) (key : List Part) (b : Bool) → is_of (if b then named else []) key ≡ true → b ≡ true
cond_holds named key true is = refl
cond_holds named key false is = absurd (true≢false (sym is))

module _ (triggers : Triggers) (events : Events) (changes : List ReadingChange) (made : MadeTables) where
  abbrev keys : ℕ × Hist → List (List Part)
  keys t = keys_counted triggers events changes made t

  counted_once : RivalsDiffer → RivalsAreOthers → (t : ℕ × Hist) → IsDistinct same_key (keys t)
  unfolding IsDistinct
  counted_once differ others t = by (counts_made t.1) where
    by : (b : Bool) → IsDistinct same_key (if b then keys_named triggers events changes (made_on made t.0 t.1) t.1 else [])
    by true = rivals_once differ others (made_on made t.0 t.1) (each_once (changed_keys triggers events t.1 changes)) (each_distinct (changed_keys triggers events t.1 changes))
    by false = tt

  -- the rows that are told are those that may differ
  pub updated_rows_are : RivalsDiffer → RivalsAreOthers → RowsStayBut → ButForAmong → UpdatedButForKeys → KeysAreUpdated
      → (found now : Findings) → AreMadeBy triggers events found made → Lead changes found now → AreUpdatedRows triggers events now made (updated_rows triggers events changes made)
  unfolding updated_rows
  updated_rows_are differ others stay among but updated found now are lead = record {
    once = once keys triggers (counted_once differ others);
    counted = λ id key is. let its = whose keys triggers id key is in (its.0, (its.1.0, cond_holds _ key (counts_made its.0) its.1.1));
    all = λ id hist there counts after is key none.
        let table : Tabled = made_on made id hist in
        let its : List (List Part) = changed_keys triggers events hist changes in
        let named : List (List Part) = each_once its in
        let apart = neither named (rivals table named) key
        (ap (λ (b : Bool). is_of (if b then keys_named triggers events changes table hist else []) key) (sym counts) ∙ not_reported keys triggers id key hist there none) in
        stay table after named key
        (among table after its named (λ q is. of_each_once its q ∙ is)
        (but triggers events found now hist its table after (are id hist there counts) is (updated triggers events hist changes found now lead))) apart.0 apart.1;
  }
