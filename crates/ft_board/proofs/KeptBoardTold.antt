-- What a board answers from what it keeps.
use Rattle.std.proofs.Common.{◌≡◌, ℕ, Bool, true, false, inr, refl, sym, ap, subst, ◌∙◌, List, [], Option, Some, None, Result, Ok, Err}
use Rattle.std.specs.Prelude.{IfSome, IsSome, unwrap_or, if◌then◌else◌}
use Rattle.std.specs.Option.{option_map_or, is_none}
use Rattle.std.specs.FinMap as map
use Rattle.ft_table.specs.Rows.{AllFit}
use Rattle.ft_base.specs.Roles.{is_reader}
use Rattle.ft_base.specs.declared.refused.Refused.TheVariants.{NoTrigger, NotReading}
use Rattle.ft_replay.specs.Replay.{State, replay}
use Rattle.ft_replay.specs.Tally.{Tally, empty_tally, tally_of}
use Rattle.ft_replay.proofs.Growing.{pairs-tally}
use Rattle.ft_made.specs.Laws.{HeldAreCounted, MadeTablesFit, TablesAreTallied}
use Rattle.ft_answers.specs.Answers.{of_attached, pairs_as, pairs_shown, tally_at, tally_made, tally_shown}
use Rattle.ft_answers.specs.Edited.{AnswersFrom}
use Rattle.ft_answers.proofs.Answering.{answered, of_attached-some, pairs-reader, pairs-other}
use Rattle.ft_board.specs.declared.kept.TableOf.{TableOf}
use Rattle.ft_answers.specs.Shown.{Shown}
use Rattle.ft_base.specs.Base.{Base, Triggers}
use Rattle.ft_base.specs.declared.refused.Refused.{Refused}
use Rattle.ft_board.specs.MadeShelves.{AreMade, AreMadeBy, made_on, MadeTables}
use Rattle.ft_hist.specs.Hist.{Hist}
use Rattle.ft_hist.specs.Made.{counts_made}
use Rattle.ft_hist.specs.Steps.{Steps}
use Rattle.ft_kept.specs.Shelves.{Shelved, Shelves}
use Rattle.ft_replay.specs.Found.{pairs_in, saving_found}
use Rattle.ft_replay.specs.Merged.{Events, merged}
use Rattle.ft_replay.specs.declared.pair.Pair.{Pair}
use Rattle.ft_table.specs.Tabled.{Tabled}
use Rattle.ft_board.specs.inner.Told.{ShelfTells, TableTells, tabled_in}

-- a board that keeps tables, with its steps
abbrev pub kept_shown : Base → Option Shelves → Steps → Shown
kept_shown base kept steps = record { base = base; deferred = is_none kept; keeps = true; steps = steps }

pub none_is : (kept : Option Shelves) → is_none kept ≡ true → kept ≡ None
none_is None is = refl
none_is (Some shelves) is = let both : ◌≡◌ {A = Bool} false true = is in absurd cc

-- what is answered of a trigger by what is shown of it
abbrev pub shown_by : {T : Type 0} → (Hist → Tally → T) → Base → ℕ → Hist → Result T Refused
shown_by tell base id hist = Ok (tell hist (tally_shown base.triggers (merged base.lanes) id hist))

module _ {S T : Type 0} (view : S → T) (old new : Shown) (id : ℕ) where
  -- if no trigger is attached, the refusal is the answer, and all stays
  pub unattached : (answers : Hist → Result T Refused) (refused : Refused) → (refused ≡ NoTrigger) × ((map.get old.base.triggers id ≡ None) × (new ≡ old)) → (answer : Result S Refused) → answer ≡ Err refused
      → AnswersFrom view (of_attached old.base.triggers id answers) old new answer
  unattached answers refused (none, (gone, stay)) answer is = subst (λ (x : Result S Refused × Shown). AnswersFrom view (of_attached old.base.triggers id answers) old x.1 x.0)
      (λ i. (sym (is ∙ ap (λ (r : Refused). let given : Result S Refused = Err r in given) none) i, sym stay i))
      (refl, inr (ap (λ (o : Option Hist). option_map_or answers o (Err NoTrigger)) gone), (λ up. up, λ _. refl))

  -- what a table tells is the answer
  pub told_by : (tell : Hist → Tally → T) (told : TableOf) → new.base ≡ old.base → TableTells new.base id told → (table : Tabled) → table ≡ tabled_in told
      → (answer : S) → ((pairs : List Pair) → view answer ≡ tell told.trigger.now (tally_of table pairs)) → new.deferred ≡ false → AnswersFrom view (of_attached old.base.triggers id (shown_by tell old.base id)) old new (Ok answer)
  told_by tell told same its table is answer gives up = (
    same,
    subst (λ (b : Base). of_attached b.triggers id (shown_by tell b id) ≡ Ok (view answer)) same
        (answered new.base.triggers (merged new.base.lanes) id told.trigger.now its.attached (tabled_in told) table is (its.pairs, its.tally) tell (view answer) gives),
    up,
  )

-- what readings found
abbrev pub pairs_by : Base → ℕ → Hist → Result (List Pair) Refused
pairs_by base id hist = pairs_as hist.variable (tally_at base.triggers (merged base.lanes) id)

-- ---- which tally is told

module _ (triggers : Triggers) (events : Events) (id : ℕ) where
  -- what replaying without made events gives of held events
  pub tally-first : HeldAreCounted → (tally : Tally) → map.get (replay triggers events).tallies id ≡ Some tally → tally_at triggers events id ≡ tally
  tally-first first tally is = ap (λ (s : State). unwrap_or (map.get s.tallies id) empty_tally) (first triggers events) ∙ ap (λ (o : Option Tally). unwrap_or o empty_tally) is

  -- that of made events, if their table is kept
  pub made-shown : TablesAreTallied → (hist : Hist) (made : MadeTables) → map.get triggers id ≡ Some hist → counts_made hist ≡ true
      → AreMadeBy triggers events (saving_found triggers events) made → tally_shown triggers events id hist ≡ tally_of (made_on made id hist) []
  made-shown tallied hist made there counts are =
      ap (λ (b : Bool). if b then tally_made triggers events id else tally_at triggers events id) counts
      ∙ ap (λ (o : Option Tally). unwrap_or o empty_tally) (tallied triggers events (saving_found triggers events) (λ _ _ _ _. refl) id hist there (made_on made id hist) (are id hist there counts))

-- what holds if there are tables
pub if_there : {P : Type 0} (kept : Option Shelves) → IsSome kept → IfSome kept (λ _. P) → P
if_there None some holds = let both : ◌≡◌ {A = Bool} false true = some in absurd cc
if_there (Some shelves) some holds = holds

-- so a table of made events that is kept tells what is shown
pub made-tells : TablesAreTallied → MadeTablesFit → (base : Base) (id : ℕ) (hist : Hist) (made : MadeTables) → map.get base.triggers id ≡ Some hist → counts_made hist ≡ true → AreMade base made
    → (told : TableOf) → told.trigger.now ≡ hist → tabled_in told ≡ made_on made id hist → TableTells base id told
made-tells tallied fit base id hist made there counts are told own is = record {
  attached = there ∙ ap (λ (h : Hist). Some h) (sym own);
  pairs = [];
  tally = ap (λ (t : Tabled). tally_of t []) is ∙ sym (made-shown base.triggers (merged base.lanes) id tallied hist made there counts are) ∙ ap (tally_shown base.triggers (merged base.lanes) id) (sym own);
  fit = subst (λ (x : Tabled × Hist). AllFit x.0 x.1) (λ i. (sym is i, sym own i)) (fit base.triggers (merged base.lanes) (saving_found base.triggers (merged base.lanes)) hist (made_on made id hist) (are id hist there counts));
}

-- ---- readings

module _ (base : Base) (id : ℕ) (hist : Hist) (there : map.get base.triggers id ≡ Some hist) where
  -- a trigger that reads nothing has none
  pub pairs-unread : is_reader hist.variable ≡ false → pairs_shown base id ≡ Err NotReading
  unfolding pairs_shown
  pairs-unread other = of_attached-some base.triggers id (pairs_by base id) hist there ∙ pairs-other hist.variable (tally_at base.triggers (merged base.lanes) id) other

  -- one that reads has those of its shelf
  module _ (reads : is_reader hist.variable ≡ true) (shelf : Shelved) (tells : ShelfTells base id hist shelf) where
    pub pairs-told : pairs_shown base id ≡ Ok (pairs_in shelf.readings)
    unfolding pairs_shown
    pairs-told =
        of_attached-some base.triggers id (pairs_by base id) hist there
        ∙ pairs-reader hist.variable (tally_at base.triggers (merged base.lanes) id) reads
        ∙ ap (λ (pairs : List Pair). let answer : Result (List Pair) Refused = Ok pairs in answer) (ap (λ (t : Tally). t.pairs) tells.tally ∙ pairs-tally shelf.table (pairs_in shelf.readings))
