-- The text of a table is made of its rows' texts.
use Rattle.std.proofs.Common.{◌≡◌, ℕ, List, ◌++◌, Result, Ok, sym, ap, ◌∙◌}
use Rattle.std.specs.Prelude.{codes}
use Rattle.std.proofs.lemmas.List.Folds.{flat_map-map}
use Rattle.ft_hist.specs.Hist.{Hist}
use Rattle.ft_table.specs.Keyed.{KeyedText}
use Rattle.ft_table.specs.Text.{heading, rows_text, totals_text, keyed_text}
use Rattle.ft_base.specs.declared.refused.Refused.{Refused}
use Rattle.ft_hist.specs.Triggers.{Triggers}
use Rattle.ft_replay.specs.Merged.{Events, merged}
use Rattle.ft_replay.specs.Tally.{Tally, rows_in, totals_in}
use Rattle.ft_answers.specs.Answers.{hist_text, row_texts_shown, totals, tally_shown, tally_text, tally_row_texts}
use Rattle.ft_answers.specs.Rows.{row_lines, RowsMakeText}
use Rattle.ft_answers.proofs.Answering.{of_attached-some}

ok_is : {S : Type 0} (a b : S) → ◌≡◌ {A = Result S Refused} (Ok a) (Ok b) → a ≡ b
ok_is a b same = cc

-- the text of a tally is
text-rows : (hist : Hist) (tally : Tally) → tally_text hist tally ≡ heading hist ++ (row_lines (tally_row_texts hist tally) ++ totals_text (totals_in tally))
unfolding tally_text tally_row_texts rows_text
text-rows hist tally =
    ap (λ (lines : List ℕ). heading hist ++ (lines ++ totals_text (totals_in tally)))
    (sym (flat_map-map (λ (row : KeyedText). row.text ++ codes "\n") (keyed_text hist) (rows_in hist.sort tally)))

pub rows_make_text : RowsMakeText
unfolding hist_text row_texts_shown totals
rows_make_text base id hist rows told there shown counted =
    let triggers : Triggers = base.triggers in
    let events : Events = merged base.lanes in
    let tally : Tally = tally_shown triggers events id hist in
    let same : tally_row_texts hist tally ≡ rows =
    ok_is (tally_row_texts hist tally) rows (sym (of_attached-some triggers id (λ (h : Hist). Ok (tally_row_texts h (tally_shown triggers events id h))) hist there) ∙ shown) in
    let all : totals_in tally ≡ told =
    ok_is (totals_in tally) told (sym (of_attached-some triggers id (λ (h : Hist). Ok (totals_in (tally_shown triggers events id h))) hist there) ∙ counted) in
    of_attached-some triggers id (λ (h : Hist). Ok (tally_text h (tally_shown triggers events id h))) hist there
    ∙ ap (λ (text : List ℕ). let answer : Result (List ℕ) Refused = Ok text in answer)
    (text-rows hist tally ∙ (λ i. heading hist ++ (row_lines (same i) ++ totals_text (all i))))
