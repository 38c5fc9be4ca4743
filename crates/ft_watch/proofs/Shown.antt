-- What tables show of a base, and which rows stay.
use Rattle.std.proofs.Common.{◌≡◌, ℕ, ◌+◌, Bool, true, false, cond, List, [], ◌∷◌, ◌++◌, length, refl, sym, ap, subst, ◌∙◌, Option, Some, None, Result, Ok, Err, IfSome, map, fold, Vec, Global, append-nil, append_assoc}
use Rattle.std.specs.Prelude.{is_some, option_map, unwrap_or}
use Rattle.std.specs.List.{flat_map, AllByRecursion}
use Rattle.std.specs.List.Sorted.{IsStrictlySortedBy}
use Rattle.std.specs.Map.{keys_of}
use Rattle.std.specs.Option.{option_map_or}
use Rattle.std.specs.Result.{is_err}
use Rattle.std.specs.Ordering.{nat_cmp, eq_by_cmp}
use Rattle.std.specs.Cmp.{nat_cmp_total}
use Rattle.std.specs.FinMap as finite
use Rattle.std.specs.FinMap.{FinMap, find, get-empty, get-insert, get-from_entries, get-entries, entries_sorted, same_map, nat_cmp-IsAntisymmetric}
use Rattle.std.proofs.lemmas.Bool.{true≢false}
use Rattle.ft_fields.specs.declared.key.Part.{Part}
use Rattle.ft_fields.specs.Parts.{key_cmp}
use Rattle.ft_fields.specs.Orders.{key_cmp_total}
use Rattle.ft_hist.specs.Hist.{Hist}
use Rattle.ft_maps.specs.Entries.{same_from_tie, strictly_sorted, entries-from_entries}
use Rattle.ft_maps.proofs.Common.{all_map}
use Rattle.ft_table.specs.Keyed.{KeyedText}
use Rattle.ft_table.specs.Text.{row_text}
use Rattle.ft_changes.specs.declared.changed.Changed.{Changed}
use Rattle.ft_changes.specs.Reports.{is_reported}
use Rattle.ft_base.specs.declared.refused.Refused.{Refused}
use Rattle.ft_base.specs.declared.refused.Refused.TheVariants.{NoTrigger}
use Rattle.ft_base.specs.Base.{empty_base}
use Rattle.ft_base.proofs.Apart.{entries_found}
use Rattle.ft_answers.specs.Base.{Triggers, Base}
use Rattle.ft_answers.specs.declared.edited.Edited.{Edited}
use Rattle.ft_answers.specs.Answers.{row_texts_shown, row_text_shown, tally_row_texts, tally_row_text, tally_shown, tally_made, tally_at}
use Rattle.ft_answers.specs.Counting.{counts_made}
use Rattle.ft_answers.specs.Reporting.{row_in, made_row_in, IsReport, IsMadeReport}
use Rattle.ft_answers.specs.Rows.{RowIsAmong, text_among}
use Rattle.ft_replay.specs.Merged.{merged}
use Rattle.ft_watch.specs.ChangedRows.{Texts, texts_of, texts_in, texts_at, table_lines, changed_keys, changed_lines, changed_count}
use Rattle.ft_watch.specs.inner.Told.{TextsById, lines_since, count_since, AreShown, AreAttached, NamesRows, with_text}

-- ---- one table

-- the text of a key among rows
get-texts_of : (rows : List KeyedText) (key : List Part) → finite.get (texts_of rows) key ≡ text_among key rows
get-texts_of [] key = get-empty key_cmp key
get-texts_of (row ∷ rows) key = get-insert key_cmp_total (texts_of rows) row.key row.text key ∙ ap (cond (eq_by_cmp key_cmp key row.key) (Some row.text)) (get-texts_of rows key)

abbrev ok_in : {A E : Type 0} → A → Result A E → A
ok_in none (Ok x) = x
ok_in none (Err e) = none

not_both : {A E : Type 0} (x : A) (e : E) → Ok x ≡ Err e → ⊥
not_both x e same = true≢false (sym (ap is_err same))

module _ (among : RowIsAmong) (base : Base) (id : ℕ) where
  -- the row of a key of an attached trigger
  pub row_is : (hist : Hist) → finite.get base.triggers id ≡ Some hist → (key : List Part) → row_text_shown base id key ≡ Ok (finite.get (texts_at base id) key)
  unfolding row_texts_shown
  row_is hist attached key =
      let rows = tally_row_texts hist (tally_shown base.triggers (merged base.lanes) id hist) in
      let shown : row_texts_shown base id ≡ Ok rows = ap (λ o. option_map_or (λ h. Ok (tally_row_texts h (tally_shown base.triggers (merged base.lanes) id h))) o (Err NoTrigger)) attached in
      among base id key rows shown ∙ ap Ok (sym (get-texts_of rows key)) ∙ ap (λ r. Ok (finite.get (texts_in r) key)) (sym shown)

  no_row : finite.get base.triggers id ≡ None → (key : List Part) → row_text_shown base id key ≡ Err NoTrigger
  unfolding row_text_shown
  no_row none key = ap (λ o. option_map_or (λ h. Ok (tally_row_text h (tally_shown base.triggers (merged base.lanes) id h) key)) o (Err NoTrigger)) none

  no_texts : finite.get base.triggers id ≡ None → texts_at base id ≡ finite.empty
  unfolding row_texts_shown
  no_texts none = ap (λ o. texts_in (option_map_or (λ h. Ok (tally_row_texts h (tally_shown base.triggers (merged base.lanes) id h))) o (Err NoTrigger))) none

  -- an answered row is the key's
  pub answered_row : (key : List Part) (text : Option (List ℕ)) → row_text_shown base id key ≡ Ok text → text ≡ finite.get (texts_at base id) key
  answered_row key text is = by (finite.get base.triggers id) refl
    where
      by : (o : Option Hist) → finite.get base.triggers id ≡ o → text ≡ finite.get (texts_at base id) key
      by (Some hist) attached = ap (ok_in None) (sym is ∙ row_is hist attached key)
      by None none = absurd (not_both text NoTrigger (sym is ∙ no_row none key))

  -- if a row is refused, there is none
  pub refused_row : (key : List Part) (refused : Refused) → row_text_shown base id key ≡ Err refused → None ≡ finite.get (texts_at base id) key
  refused_row key refused is = by (finite.get base.triggers id) refl
    where
      by : (o : Option Hist) → finite.get base.triggers id ≡ o → None ≡ finite.get (texts_at base id) key
      by (Some hist) attached = absurd (not_both (finite.get (texts_at base id) key) refused (sym (row_is hist attached key) ∙ is))
      by None none = sym (ap (λ (t : Texts). finite.get t key) (no_texts none) ∙ get-empty key_cmp key)

-- ---- all tables

-- what holds of whatever a map has holds of its entries
pub all_entries : {X : Type 0} (P : ℕ × X → Type 0) (m : FinMap nat_cmp X) → ((e : ℕ × X) → finite.get m e.0 ≡ Some e.1 → P e) → AllByRecursion P (finite.entries m)
all_entries P m holds = all_map (λ e. finite.get m e.0 ≡ Some e.1) P holds (finite.entries m) (entries_found nat_cmp nat_cmp_total m)

-- what a base's triggers show, by id
abbrev shown_list : Base → List (ℕ × Hist) → List (ℕ × Texts)
shown_list base es = map (λ e. (e.0, texts_at base e.0)) es

find-shown : (base : Base) (id : ℕ) (es : List (ℕ × Hist)) → find nat_cmp id (shown_list base es) ≡ option_map (λ _. texts_at base id) (find nat_cmp id es)
find-shown base id [] = refl
find-shown base id (e ∷ es) = ap (cond (eq_by_cmp nat_cmp id e.0) (Some (texts_at base e.0))) (find-shown base id es) ∙ by (eq_by_cmp nat_cmp id e.0) refl
  where
    by : (b : Bool) → eq_by_cmp nat_cmp id e.0 ≡ b → cond b (Some (texts_at base e.0)) (option_map (λ _. texts_at base id) (find nat_cmp id es)) ≡ option_map (λ _. texts_at base id) (cond b (Some e.1) (find nat_cmp id es))
    by true tie = ap (λ i. Some (texts_at base i)) (sym (same_from_tie nat_cmp-IsAntisymmetric id e.0 tie))
    by false apart = refl

keys-shown : (base : Base) (es : List (ℕ × Hist)) → keys_of (shown_list base es) ≡ keys_of es
keys-shown base [] = refl
keys-shown base (e ∷ es) = ap (λ (ks : List ℕ). e.0 ∷ ks) (keys-shown base es)

module _ (base : Base) (tables : TextsById) (shown : AreShown base tables) where
  tables-are : tables ≡ finite.from_entries {R = nat_cmp} (shown_list base (finite.entries base.triggers))
  tables-are = same_map nat_cmp_total nat_cmp-IsAntisymmetric tables _ (λ id.
      shown id ∙ ap (option_map (λ _. texts_at base id)) (get-entries base.triggers id)
      ∙ sym (get-from_entries nat_cmp_total (shown_list base (finite.entries base.triggers)) id ∙ find-shown base id (finite.entries base.triggers)))

  entries-are : finite.entries tables ≡ shown_list base (finite.entries base.triggers)
  entries-are =
      ap finite.entries tables-are
      ∙ entries-from_entries nat_cmp_total (shown_list base (finite.entries base.triggers))
      (subst (IsStrictlySortedBy nat_cmp) (sym (keys-shown base (finite.entries base.triggers))) (strictly_sorted nat_cmp (finite.entries base.triggers) (entries_sorted base.triggers)))

  lines-are : (new : Base) (es : List (ℕ × Hist)) → lines_since (shown_list base es) new ≡ flat_map (λ t. table_lines t.0 (texts_at base t.0) (texts_at new t.0)) es
  lines-are new [] = refl
  lines-are new (e ∷ es) = ap (λ l. table_lines e.0 (texts_at base e.0) (texts_at new e.0) ++ l) (lines-are new es)

  -- what is told since they were looked at is what changed
  pub lines_changed : (new : Base) → lines_since (finite.entries tables) new ≡ changed_lines base new
  unfolding changed_lines
  lines_changed new = ap (λ es. lines_since es new) entries-are ∙ lines-are new (finite.entries base.triggers)

  count-are : (new : Base) (es : List (ℕ × Hist)) (n : ℕ) → fold (λ a t. a + length (changed_keys t.1 (texts_at new t.0))) n (shown_list base es) ≡ fold (λ a t. a + length (changed_keys (texts_at base t.0) (texts_at new t.0))) n es
  count-are new [] n = refl
  count-are new (e ∷ es) n = count-are new es (n + length (changed_keys (texts_at base e.0) (texts_at new e.0)))

  pub count_changed : (new : Base) → count_since (finite.entries tables) new ≡ changed_count base new
  unfolding changed_count
  count_changed new = ap (λ es. count_since es new) entries-are ∙ count-are new (finite.entries base.triggers) 0

  -- what a table has is what an attached trigger shows
  pub table_shows : (P : ℕ → Texts → Type 0) → ((id : ℕ) (hist : Hist) → finite.get base.triggers id ≡ Some hist → P id (texts_at base id)) → (e : ℕ × Texts) → finite.get tables e.0 ≡ Some e.1 → P e.0 e.1
  table_shows P holds e there = by (finite.get base.triggers e.0) refl
    where
      by : (o : Option Hist) → finite.get base.triggers e.0 ≡ o → P e.0 e.1
      by (Some hist) attached =
          subst (P e.0) (ap (λ o. unwrap_or o e.1) (sym (ap (option_map (λ _. texts_at base e.0)) attached) ∙ sym (shown e.0) ∙ there)) (holds e.0 hist attached)
      by None none = absurd (true≢false (sym (ap is_some (sym (ap (option_map (λ _. texts_at base e.0)) none) ∙ sym (shown e.0) ∙ there))))

-- tables that took the rows of a base in which the same triggers are attached show that base
pub shown_again : (old new : Base) (before now : TextsById) → new.triggers ≡ old.triggers → AreShown old before → ((id : ℕ) → finite.get now id ≡ option_map (λ _. texts_at new id) (finite.get before id)) → AreShown new now
shown_again old new before now same shown taken id =
    taken id ∙ ap (option_map (λ _. texts_at new id)) (shown id) ∙ twice (finite.get old.triggers id) ∙ ap (λ (t : Triggers). option_map (λ _. texts_at new id) (finite.get t id)) (sym same)
  where
    twice : (o : Option Hist) → option_map (λ _. texts_at new id) (option_map (λ _. texts_at old id) o) ≡ option_map (λ _. texts_at new id) o
    twice None = refl
    twice (Some hist) = refl

-- tables of the attached triggers that took the rows of the base show it
pub shown_at_last : (base : Base) (before now : TextsById) → AreAttached base before → ((id : ℕ) → finite.get now id ≡ option_map (λ _. texts_at base id) (finite.get before id)) → AreShown base now
shown_at_last base before now attached taken id = taken id ∙ by (finite.get before id) (finite.get base.triggers id) (attached id)
  where
    by : (o : Option Texts) (p : Option Hist) → is_some o ≡ is_some p → option_map (λ _. texts_at base id) o ≡ option_map (λ _. texts_at base id) p
    by None None both = refl
    by (Some texts) (Some hist) both = refl
    by None (Some hist) both = absurd (true≢false (sym both))
    by (Some texts) None both = absurd (true≢false both)

-- tables that show a base are those of its triggers
pub shown_attached : (base : Base) (tables : TextsById) → AreShown base tables → AreAttached base tables
shown_attached base tables shown id = ap is_some (shown id) ∙ by (finite.get base.triggers id)
  where
    by : (o : Option Hist) → is_some (option_map (λ _. texts_at base id) o) ≡ is_some o
    by None = refl
    by (Some hist) = refl

-- ---- rows that stay

-- the row of a key of an attached trigger is told by what it has counted
row_told : RowIsAmong → (base : Base) (id : ℕ) (hist : Hist) → finite.get base.triggers id ≡ Some hist → (key : List Part)
    → finite.get (texts_at base id) key ≡ tally_row_text hist (tally_shown base.triggers (merged base.lanes) id hist) key
unfolding row_text_shown tally_row_text
row_told among base id hist attached key =
    ap (ok_in None) (sym (row_is among base id hist attached key) ∙ ap (λ o. option_map_or (λ h. Ok (tally_row_text h (tally_shown base.triggers (merged base.lanes) id h) key)) o (Err NoTrigger)) attached)

module _ (among : RowIsAmong) (old new : Base) (same : new.triggers ≡ old.triggers) (held made : List Changed) (is_held : IsReport old new held) (is_made : IsMadeReport old new made) where
  -- a row that an edit doesn't name, of an attached trigger, stays
  pub row_stays : (id : ℕ) (hist : Hist) → finite.get old.triggers id ≡ Some hist → (key : List Part) → is_reported held id key ≡ false → is_reported made id key ≡ false
      → finite.get (texts_at new id) key ≡ finite.get (texts_at old id) key
  unfolding row_in made_row_in tally_row_text
  row_stays id hist attached key apart_held apart_made =
      row_told among new id hist (ap (λ (t : Triggers). finite.get t id) same ∙ attached) key
      ∙ ap (option_map (row_text hist)) (by (counts_made hist) refl)
      ∙ sym (row_told among old id hist attached key)
    where
      by : (b : Bool) → counts_made hist ≡ b
          → finite.get (cond b (tally_made new.triggers (merged new.lanes) id) (tally_at new.triggers (merged new.lanes) id)).table key
          ≡ finite.get (cond b (tally_made old.triggers (merged old.lanes) id) (tally_at old.triggers (merged old.lanes) id)).table key
      by true counts = is_made.all id hist attached counts key apart_made
      by false counts = is_held.all id hist attached counts key apart_held

-- what an accepted edit names, it names of the tables that showed the base before it
pub names_rows : RowIsAmong → (old new : Base) (edited : Edited) (tables : TextsById) → new.triggers ≡ old.triggers → AreShown old tables
    → IfSome edited.report (λ rows. IsReport old new rows.items) → IfSome edited.made (λ rows. IsMadeReport old new rows.items)
    → AllByRecursion (NamesRows edited new) (finite.entries tables)
names_rows among old new edited tables same shown reports makes =
    all_entries (NamesRows edited new) tables (table_shows old tables shown (λ id texts. NamesRows edited new (id, texts)) (λ id hist attached. of_edited edited.report edited.made reports makes id hist attached))
  where
    of_edited : (report made : Option (Vec Changed Global)) → IfSome report (λ rows. IsReport old new rows.items) → IfSome made (λ rows. IsMadeReport old new rows.items)
        → (id : ℕ) (hist : Hist) → finite.get old.triggers id ≡ Some hist
        → IfSome report (λ held. IfSome made (λ made. (key : List Part) → is_reported held.items id key ≡ false → is_reported made.items id key ≡ false → finite.get (texts_at new id) key ≡ finite.get (texts_at old id) key))
    of_edited None made reports makes id hist attached = tt
    of_edited (Some held) None reports makes id hist attached = tt
    of_edited (Some held) (Some made) reports makes id hist attached = λ key. row_stays among old new same held.items made.items reports makes id hist attached key

-- if nothing is attached, no tables show all
pub shown_empty : (base : Base) (tables : TextsById) → base ≡ empty_base → tables ≡ finite.empty → AreShown base tables
shown_empty base tables empty none id =
    ap (λ (t : TextsById). finite.get t id) none ∙ get-empty nat_cmp id
    ∙ sym (ap (λ (b : Base). option_map (λ _. texts_at base id) (finite.get b.triggers id)) empty ∙ ap (option_map (λ _. texts_at base id)) (get-empty nat_cmp id))

-- ---- rows that are taken from the end

-- of these rows, those after the ones that are left are taken
pub record Popped (all left : List KeyedText) (table : Texts) : Type 0 where
  pub done : List KeyedText
  pub whole : all ≡ left ++ done
  pub taken : table ≡ texts_of done

pub popped_none : (all : List KeyedText) → Popped all all finite.empty
popped_none all = record { done = []; whole = sym (append-nil all); taken = refl }

pub popped_more : (all left rest : List KeyedText) (row : KeyedText) (table : Texts) → left ≡ rest ++ row ∷ [] → Popped all left table → Popped all rest (with_text row.key (Some row.text) table)
popped_more all left rest row table last p = record {
  done = row ∷ p.done;
  whole = p.whole ∙ ap (λ (l : List KeyedText). l ++ p.done) last ∙ append_assoc rest (row ∷ []) p.done;
  taken = ap (λ (t : Texts). finite.insert t row.key row.text) p.taken;
}

pub popped_all : (all left : List KeyedText) (table : Texts) → left ≡ [] → Popped all left table → table ≡ texts_of all
popped_all all left table none p = p.taken ∙ ap texts_of (sym (p.whole ∙ ap (λ (l : List KeyedText). l ++ p.done) none))
