-- What an accepted edit of one event prints, and what is known of the tables then.
use Rattle.std.proofs.Common.{◌≡◌, ℕ, false, List, ◌++◌, refl, sym, ap, subst, ◌∙◌, Result, Ok, Err, OnOk, OnErr, IfOk}
use Rattle.std.specs.Prelude.{codes, decimal, option_map}
use Rattle.std.specs.declared.alloc.AllocError.{AllocError}
use Rattle.std.specs.FinMap as finite
use Rattle.std.proofs.lemmas.Result.{IfOk-weaker}
use Rattle.ft_base.specs.declared.refused.Place.{Place}
use Rattle.ft_base.specs.declared.refused.Refused.{Refused}
use Rattle.ft_answers.specs.Base.{Base}
use Rattle.ft_script.specs.Answered.{lane_place_text}
use Rattle.ft_desk.specs.Output.{Outcome, edit_outcome}
use Rattle.ft_desk.specs.declared.performing.Performed.{Performed}
use Rattle.ft_desk.specs.inner.Printed.{Prints}
use Rattle.ft_watch.specs.ChangedRows.{texts_at, changed_lines, changes_text}
use Rattle.ft_watch.specs.Watched.{told}
use Rattle.ft_watch.specs.declared.known_tables.Known.{Known}
use Rattle.ft_watch.specs.declared.known_tables.Known.TheVariants as knowns
use Rattle.ft_watch.specs.inner.Told.{TextsById, lines_since, count_since, AreShown, AreKnown}
use Rattle.ft_watch.proofs.Shown.{lines_changed, count_changed, shown_again}

-- what is printed of tables since they were looked at
abbrev pub text_since : TextsById → Base → List ℕ
text_since tables base = lines_since (finite.entries tables) base ++ (codes "changed " ++ (decimal (count_since (finite.entries tables) base) ++ codes "\n"))

text_changed : (old new : Base) (tables : TextsById) → AreShown old tables → text_since tables new ≡ changes_text old new
unfolding changes_text
text_changed old new tables shown =
    ap (λ l. l ++ (codes "changed " ++ (decimal (count_since (finite.entries tables) new) ++ codes "\n"))) (lines_changed old tables shown new)
    ∙ ap (λ n. changed_lines old new ++ (codes "changed " ++ (decimal n ++ codes "\n"))) (count_changed old tables shown new)

anyway : {A E : Type 0} (result : Result A E) (P : Type 0) → P → IfOk result (λ _. P)
anyway (Ok x) P p = p
anyway (Err e) P p = tt

-- an accepted edit prints what it prints of a desk, and which rows it changed
pub edit_told : (old new left : Base) (word : List ℕ) (place : Place) (after : Result (Base × Place) Refused) (tables : TextsById) (result : Result Performed AllocError)
    → AreShown old tables → after ≡ Ok (new, place) → left ≡ new
    → IfOk result (λ done. done.text.items ≡ (word ++ lane_place_text place ++ codes "\n") ++ text_since tables new) → IfOk result (λ done. done.refused ≡ false)
    → Prints (told old (edit_outcome lane_place_text old word after)) left result
edit_told old new left word place after tables result shown is same text refused =
    subst (λ (a : Result (Base × Place) Refused). Prints (told old (edit_outcome lane_place_text old word a)) left result) (sym is) (record {
      text = IfOk-weaker result _ _ (λ done h. h ∙ ap (λ t. (word ++ lane_place_text place ++ codes "\n") ++ t) (text_changed old new tables shown)) text;
      refused = refused;
      base = anyway result (left ≡ new) same;
    })

-- the tables are known if the edit was told, and else nothing is
pub edit_known : (old new : Base) (before now : TextsById) (known : Known) (result : Result Performed AllocError) → new.triggers ≡ old.triggers → AreShown old before
    → OnOk result ((id : ℕ) → finite.get now id ≡ option_map (λ _. texts_at new id) (finite.get before id)) → OnOk result (known ≡ knowns.Shown) → OnErr result (known ≡ knowns.Nothing)
    → AreKnown known new now
edit_known old new before now known (Ok done) same shown taken is failed = subst (λ (k : Known). AreKnown k new now) (sym is) (shown_again old new before now same shown taken)
edit_known old new before now known (Err e) same shown taken is failed = subst (λ (k : Known). AreKnown k new now) (sym failed) tt
