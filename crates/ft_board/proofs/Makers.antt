-- Which attached triggers make events of their readings or count such events: by a test of all, and after an edit that brings no trigger.
use Rattle.std.proofs.Common.{◌≡◌, ◌⊎◌, ℕ, Bool, true, false, ◌&&◌, List, Option, Some, None, is_some, refl, sym, ap, subst, ◌∙◌, inl, inr, ⊎_elim}
use Rattle.std.specs.Prelude.{IsTrue, Result, Ok}
use Rattle.std.specs.List.{list_any}
use Rattle.std.proofs.lemmas.List.Elements.{All-from_recursion}
use Rattle.std.proofs.lemmas.List.Folds.{list_any_none}
use Rattle.std.specs.Option.{option_map_or}
use Rattle.std.specs.Ordering.{nat_cmp}
use Rattle.std.specs.Cmp.{nat_cmp_total}
use Rattle.std.specs.FinMap as map
use Rattle.std.specs.FinMap.{get-entries}
use Rattle.std.proofs.lemmas.Bool.{and_parts, cases_eq}
use Rattle.std.proofs.lemmas.Option.{same_Some}
use Rattle.ft_fields.specs.declared.event.Name.{Name}
use Rattle.ft_hist.specs.Hist.{with_filter, Hist}
use Rattle.ft_hist.specs.declared.label.Var.{Var}
use Rattle.ft_hist.specs.declared.onmatch.Onmatch.{Onmatch}
use Rattle.ft_hist.specs.Sound.{is_reader, onmatch_suits}
use Rattle.ft_base.proofs.Apart.{entries_found}
use Rattle.ft_maps.proofs.Common.{all_map}
use Rattle.ft_repair.proofs.EventLists.{unasked}
use Rattle.ft_filter.specs.Tree.{Tree}
use Rattle.ft_maps.specs.Entries.{get-insert_same}
use Rattle.ft_base.specs.After.{after_refilter, after_load}
use Rattle.ft_base.specs.OneTrigger.{GetsFilter}
use Rattle.ft_base.proofs.After.{load-gives}
use Rattle.ft_base.proofs.Cases.{refilter-ok}
use Rattle.ft_answers.specs.Counting.{CountNone, MakesNothing}
use Rattle.ft_base.specs.Base.{Base, Triggers}
use Rattle.ft_base.specs.declared.refused.Refused.{Refused}
use Rattle.ft_fields.specs.Traced.{Traced}
use Rattle.ft_hist.specs.Made.{counts_made}
use Rattle.ft_made.specs.Making.{MakeNone}
use Rattle.ft_repair.proofs.Alike.{rest_same}

pub makers_read : (event : Name) (variable : Option Var) (onmatch : Option Onmatch) → IsTrue (option_map_or (onmatch_suits event variable) onmatch true) → is_some onmatch ≡ true → is_reader variable ≡ true
makers_read event variable None suits is = cc
makers_read event variable (Some part) suits is = (and_parts (is_reader variable) _ suits).0

-- ---- whether some attached trigger is such

module _ (test : Hist → Bool) (triggers : Triggers) where
  -- if none is, the one with an id isn't
  pub none_attached : list_any (λ e. test e.1) (map.entries triggers) ≡ false → (id : ℕ) (hist : Hist) → map.get triggers id ≡ Some hist → test hist ≡ false
  none_attached none id hist there = (unasked (λ (e : ℕ × Hist). test e.1) (map.entries triggers) id hist none (sym (get-entries triggers id) ∙ there)).1

  -- if no attached one is, none is
  pub all_but : ((id : ℕ) (hist : Hist) → map.get triggers id ≡ Some hist → test hist ≡ false) → list_any (λ e. test e.1) (map.entries triggers) ≡ false
  all_but each = list_any_none (λ (e : ℕ × Hist). test e.1) (map.entries triggers) (All-from_recursion (λ (e : ℕ × Hist). test e.1 ≡ false) (map.entries triggers)
      (all_map (λ (e : ℕ × Hist). map.get triggers e.0 ≡ Some e.1) (λ (e : ℕ × Hist). test e.1 ≡ false) (λ e there. each e.0 e.1 there) (map.entries triggers) (entries_found nat_cmp nat_cmp_total triggers)))

pub makes_none : (onmatch : Option Onmatch) → is_some onmatch ≡ false → onmatch ≡ None
makes_none None none = refl
makes_none (Some part) none = let both : ◌≡◌ {A = Bool} true false = none in absurd cc

pub reads_and_makes_none : (onmatch : Option Onmatch) (reads : Bool) → (reads ≡ true → onmatch ≡ None) → (is_some onmatch && reads) ≡ false
reads_and_makes_none onmatch true none = ap (λ (o : Option Onmatch). is_some o && true) (none refl)
reads_and_makes_none None false none = refl
reads_and_makes_none (Some part) false none = refl

pub nothing_if : (triggers : Triggers) → MakeNone triggers ⊎ CountNone triggers → MakesNothing triggers
nothing_if triggers (inl none) = inl (λ id hist there _. none id hist there)
nothing_if triggers (inr none) = inr none

-- ---- after an edit that brings no trigger

-- the triggers of the base that an edit gives
abbrev triggers_in : Base → Result (Base × ℕ) Refused → Triggers
triggers_in base (Ok given) = given.0.triggers
triggers_in base other = base.triggers

-- the trigger has the new filter, and is else as it was
pub refiltered_as : (base new : Base) (id same : ℕ) (filter : Option Tree) → after_refilter base id filter ≡ Ok (new, same) → (gets : GetsFilter id base new) → gets.hist ≡ with_filter gets.was filter
refiltered_as base new id same filter answer gets =
    let is : ◌≡◌ {A = Result (Base × ℕ) Refused} (Ok (record base { triggers = map.insert base.triggers id (with_filter gets.was filter) }, id)) (Ok (new, same)) = sym (refilter-ok base id filter gets.was gets.attached_before) ∙ answer in
    same_Some _ _ (sym gets.attached ∙ ap (λ (r : Result (Base × ℕ) Refused). map.get (triggers_in base r) id) (sym is) ∙ get-insert_same nat_cmp_total base.triggers id (with_filter gets.was filter))

-- a trigger that reads makes no events
abbrev ReadsAndMakesNone : Hist → Type 0
ReadsAndMakesNone hist = is_reader hist.variable ≡ true → hist.onmatch ≡ None

module _ (id : ℕ) (old new : Base) (gets : GetsFilter id old new) where
  -- the other triggers stay
  pub filter_same : (other : ℕ) → (other ≡ id → ⊥) → map.get new.triggers other ≡ map.get old.triggers other
  filter_same other apart = sym (rest_same new.triggers id other apart) ∙ ap (λ (t : Triggers). map.get t other) gets.others ∙ rest_same old.triggers id other apart

  -- what holds of each trigger still does, if the one that got another filter keeps it
  each_filtered : (P : Hist → Type 0) → (P gets.was → P gets.hist) → ((other : ℕ) (hist : Hist) → map.get old.triggers other ≡ Some hist → P hist) → (other : ℕ) (hist : Hist) → map.get new.triggers other ≡ Some hist → P hist
  each_filtered P keeps each other hist there = ⊎_elim
      (λ same. subst P (same_Some _ _ (sym gets.attached ∙ ap (map.get new.triggers) (sym same) ∙ there)) (keeps (each id gets.was gets.attached_before)))
      (λ apart. each other hist (sym (filter_same other apart) ∙ there))
      (cases_eq other id)

  pub refiltered_nothing : (filter : Option Tree) → gets.hist ≡ with_filter gets.was filter → MakesNothing old.triggers → MakesNothing new.triggers
  refiltered_nothing filter is (inl none) = inl (each_filtered ReadsAndMakesNone (subst ReadsAndMakesNone (sym is)) none)
  refiltered_nothing filter is (inr none) = inr (each_filtered (λ (hist : Hist). counts_made hist ≡ false) (subst (λ (hist : Hist). counts_made hist ≡ false) (sym is)) none)

-- a load leaves the triggers
pub loaded_triggers : (base new : Base) (es : List Traced) (count : ℕ) → after_load base es ≡ Ok (new, count) → base.triggers ≡ new.triggers
loaded_triggers base new es count answer = ap (λ (b : Base). b.triggers) (load-gives base es new count answer).1
