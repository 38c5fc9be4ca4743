-- Which triggers are attached after commands.
use Rattle.std.proofs.Common.{◌≡◌, ℕ, ◌+◌, Bool, true, false, cond, List, length, refl, sym, ap, subst, ◌∙◌, Option, Some, None, Result, Ok, Err, map}
use Rattle.std.specs.Prelude.{is_some, ◌||◌, nat_lt, nat_le, codes, decimal, if◌then◌else◌}
use Rattle.std.specs.Option.{option_map_or}
use Rattle.std.specs.Ordering.{nat_cmp, eq_by_cmp}
use Rattle.std.specs.Cmp.{nat_cmp_total}
use Rattle.std.specs.FinMap as finite
use Rattle.std.specs.FinMap.{get-insert, get-remove, nat_cmp-IsAntisymmetric}
use Rattle.ft_fields.specs.Traced.{Traced}
use Rattle.ft_fields.specs.declared.event.Name.{Name}
use Rattle.ft_filter.specs.Tree.{Tree}
use Rattle.ft_hist.specs.Hist.{Hist, with_filter}
use Rattle.ft_lanes.specs.Held.{event_limit, number_limit, held_in}
use Rattle.ft_lanes.specs.Edits.{lane_or_new}
use Rattle.ft_lanes.specs.Loaded.{first_held}
use Rattle.std.specs.Result.{is_err}
use Rattle.std.proofs.lemmas.Bool.{true≢false}
use Rattle.ft_maps.specs.Entries.{same_from_tie}
use Rattle.ft_base.specs.declared.refused.Refused.{Refused}
use Rattle.ft_base.specs.declared.refused.Refused.TheVariants.{NoLane, NoTrigger, InUse}
use Rattle.ft_base.specs.declared.refused.Place.{Place}
use Rattle.ft_answers.specs.Base.{Triggers, Base, trigger_limit, id_limit}
use Rattle.ft_answers.specs.After.{after_load, after_unload, after_insert, after_strike, after_attach, after_refilter, after_remove, variable_refusal, reader_on}
use Rattle.ft_script.specs.Script.{Asked}
use Rattle.ft_script.specs.declared.script.Numbered.TheVariants as numbers
use Rattle.ft_desk.specs.Edits.{after_load_text, after_insert_text, after_attach_text, after_refilter_text, events_of, trigger_for, filter_for, ◌>>=◌}
use Rattle.ft_desk.specs.Output.{Outcome, edit_outcome, answer_outcome, outcome, outcome_about, after_load_file, file_at}
use Rattle.ft_watch.specs.inner.Told.{KeepsIds, AsksNoEdit}

-- what is attached after an edit; a refusal leaves it
abbrev pub triggers_of : {T : Type 0} → Base → Result (Base × T) Refused → Triggers
triggers_of base (Ok done) = done.0.triggers
triggers_of base (Err refused) = base.triggers

-- the same triggers are attached
abbrev pub Stay : {T : Type 0} → Base → Result (Base × T) Refused → Type 0
Stay base after = triggers_of base after ≡ base.triggers

-- triggers with the same ids are attached
abbrev pub KeepIds : {T : Type 0} → Base → Result (Base × T) Refused → Type 0
KeepIds base after = (id : ℕ) → is_some (finite.get (triggers_of base after) id) ≡ is_some (finite.get base.triggers id)

same_ids : {T : Type 0} (base : Base) (after : Result (Base × T) Refused) → Stay base after → KeepIds base after
same_ids base after stay id = ap (λ (t : Triggers). is_some (finite.get t id)) stay

-- ---- what holds of each case

either : {A : Type 0} (P : A → Type 0) (b : Bool) (x y : A) → P x → P y → P (if b then x else y)
either P true x y p q = p
either P false x y p q = q

maybe : {A B : Type 0} (P : B → Type 0) (f : A → B) (o : Option A) (none : B) → ((x : A) → P (f x)) → P none → P (option_map_or f o none)
maybe P f None none some p = p
maybe P f (Some x) none some p = some x

further : {A B : Type 0} (P : Result B Refused → Type 0) (r : Result A Refused) (f : A → Result B Refused) → ((x : A) → P (f x)) → ((refused : Refused) → P (Err refused)) → P (r >>= f)
further P (Ok x) f ok err = ok x
further P (Err refused) f ok err = err refused

-- ---- lanes

insert_stays : (base : Base) (event : Traced) → Stay base (after_insert base event)
unfolding after_insert
insert_stays base event = either (Stay {T = Place} base) (nat_le event_limit (held_in base.lanes) || nat_lt number_limit (lane_or_new base.lanes event.cpu).next) _ _ refl refl

pub insert_text_stays : (base : Base) (line : List ℕ) → Stay base (after_insert_text base line)
unfolding after_insert_text
insert_text_stays base line = further (Stay base) _ (after_insert base) (insert_stays base) (λ _. refl)

pub strike_stays : (base : Base) (cpu line : ℕ) → Stay base (after_strike base cpu line)
unfolding after_strike
strike_stays base cpu line = maybe (Stay base) _ (finite.get base.lanes cpu) _ (λ lane. maybe (Stay base) _ (finite.get lane.events line) _ (λ _. refl) refl) refl

load_stays : (base : Base) (events : List Traced) → Stay base (after_load base events)
unfolding after_load
load_stays base events = maybe (Stay {T = ℕ} base) _ (first_held base.lanes events) _ (λ _. refl) (either (Stay {T = ℕ} base) (nat_lt event_limit (held_in base.lanes + length events)) _ _ refl refl)

load_text_stays : (base : Base) (text : List ℕ) → Stay base (after_load_text base text)
unfolding after_load_text
load_text_stays base text = further (Stay base) (events_of text) (after_load base) (load_stays base) (λ _. refl)

load_file_stays : (files : List (List ℕ)) (base : Base) (n : ℕ) → Stay base (after_load_file files base n)
unfolding after_load_file
load_file_stays files base n = maybe (Stay base) (after_load_text base) (file_at files n) _ (load_text_stays base) refl

unload_stays : (base : Base) (cpu : ℕ) → Stay base (after_unload base cpu)
unfolding after_unload
unload_stays base cpu = maybe (Stay base) _ (finite.get base.lanes cpu) _ (λ _. refl) refl

-- ---- triggers

-- a look-up after a trigger was put in
ids_with : (triggers : Triggers) (id : ℕ) (hist : Hist) (q : ℕ) → is_some (finite.get (finite.insert triggers id hist) q) ≡ cond (eq_by_cmp nat_cmp q id) true (is_some (finite.get triggers q))
ids_with triggers id hist q = ap is_some (get-insert nat_cmp_total triggers id hist q) ∙ by (eq_by_cmp nat_cmp q id)
  where
    by : (b : Bool) → is_some (cond b (Some hist) (finite.get triggers q)) ≡ cond b true (is_some (finite.get triggers q))
    by true = refl
    by false = refl

-- if one with the id is there, the same ids are
ids_again : (triggers : Triggers) (id : ℕ) (hist : Hist) → is_some (finite.get triggers id) ≡ true → (q : ℕ) → is_some (finite.get (finite.insert triggers id hist) q) ≡ is_some (finite.get triggers q)
ids_again triggers id hist there q = ids_with triggers id hist q ∙ by (eq_by_cmp nat_cmp q id) refl
  where
    by : (b : Bool) → eq_by_cmp nat_cmp q id ≡ b → cond b true (is_some (finite.get triggers q)) ≡ is_some (finite.get triggers q)
    by true tie = sym (ap (λ x. is_some (finite.get triggers x)) (same_from_tie nat_cmp-IsAntisymmetric q id tie) ∙ there)
    by false apart = refl

refilter_keeps : (base : Base) (id : ℕ) (filter : Option Tree) → KeepIds base (after_refilter base id filter)
unfolding after_refilter
refilter_keeps base id filter = by (finite.get base.triggers id) refl
  where
    by : (o : Option Hist) → finite.get base.triggers id ≡ o
        → KeepIds base (option_map_or (λ hist. Ok (record base { triggers = finite.insert base.triggers id (with_filter hist filter) }, id)) o (Err NoTrigger))
    by None none q = refl
    by (Some hist) there q = ids_again base.triggers id (with_filter hist filter) (ap is_some there) q

refilter_text_keeps : (base : Base) (id : ℕ) (text : Option (List ℕ)) → KeepIds base (after_refilter_text base id text)
unfolding after_refilter_text
refilter_text_keeps base id text =
    maybe (KeepIds base) _ (finite.get base.triggers id) _ (λ hist. further (KeepIds base) (filter_for hist.event text) (after_refilter base id) (refilter_keeps base id) (λ _ q. refl)) (λ q. refl)

-- a trigger that was attached has the id that was given, beside those that were there
abbrev pub Attaches : Base → Result (Base × ℕ) Refused → Type 0
Attaches base after = (new : Base) (id : ℕ) → after ≡ Ok (new, id) → (q : ℕ) → is_some (finite.get new.triggers q) ≡ cond (eq_by_cmp nat_cmp q id) true (is_some (finite.get base.triggers q))

-- the base that an accepted edit leaves, and its value
base_in : {T : Type 0} → Base → Result (Base × T) Refused → Base
base_in base (Ok done) = done.0
base_in base (Err refused) = base

value_in : {T : Type 0} → T → Result (Base × T) Refused → T
value_in value (Ok done) = done.1
value_in value (Err refused) = value

refused_not : {T : Type 0} (refused : Refused) (done : Base × T) → Err refused ≡ Ok done → ⊥
refused_not refused done e = true≢false (ap is_err e)

attach_attaches : (base : Base) (hist : Hist) → Attaches base (after_attach base hist)
unfolding after_attach base_in value_in
attach_attaches base hist =
    either (Attaches base) (nat_le trigger_limit (finite.len base.triggers) || nat_lt id_limit base.next_id) _ _ (λ new id e. absurd (refused_not _ _ e))
    (maybe (Attaches base) Err (variable_refusal base.triggers hist hist.variable) _ (λ _ new id e. absurd (refused_not _ _ e))
    (λ new id e q.
    ap (λ (b : Base). is_some (finite.get b.triggers q)) (sym (ap (base_in base) e)) ∙ ids_with base.triggers base.next_id hist q
    ∙ ap (λ i. cond (eq_by_cmp nat_cmp q i) true (is_some (finite.get base.triggers q))) (ap (value_in 0) e)))

pub attach_text_attaches : (base : Base) (name : Name) (text : List ℕ) → Attaches base (after_attach_text base name text)
unfolding after_attach_text
attach_text_attaches base name text = further (Attaches base) (trigger_for name text) (after_attach base) (attach_attaches base) (λ refused new id e. absurd (refused_not _ _ e))

-- a trigger that was removed is attached no more, and the others are; a refusal leaves all
abbrev pub Removes : ℕ → Base → Outcome → Type 0
Removes id base done =
    (done.refused ≡ true → done.base ≡ base)
    × (done.refused ≡ false → (q : ℕ) → is_some (finite.get done.base.triggers q) ≡ cond (eq_by_cmp nat_cmp q id) false (is_some (finite.get base.triggers q)))

ids_without : (triggers : Triggers) (id q : ℕ) → is_some (finite.get (finite.remove triggers id) q) ≡ cond (eq_by_cmp nat_cmp q id) false (is_some (finite.get triggers q))
ids_without triggers id q = ap is_some (get-remove nat_cmp_total triggers id q) ∙ by (eq_by_cmp nat_cmp q id)
  where
    by : (b : Bool) → is_some (cond b None (finite.get triggers q)) ≡ cond b false (is_some (finite.get triggers q))
    by true = refl
    by false = refl

remove_removes : (base : Base) (id : ℕ) → Removes id base (edit_outcome decimal base (codes "removed ") (after_remove base id))
unfolding after_remove
remove_removes base id =
    maybe (λ r. Removes id base (edit_outcome decimal base (codes "removed ") r)) _ (finite.get base.triggers id) _
    (λ hist. maybe (λ r. Removes id base (edit_outcome decimal base (codes "removed ") r)) _ (reader_on base.triggers hist.variable) _ (λ reader. left (InUse reader)) ((λ e. absurd (true≢false (sym e))), (λ _ q. ids_without base.triggers id q)))
    (left NoTrigger)
  where
    left : (refused : Refused) → Removes id base (edit_outcome decimal base (codes "removed ") (Err refused))
    left refused = ((λ _. refl), (λ e. absurd (true≢false e)))

-- ---- commands

base_of : {T : Type 0} (shown : T → List ℕ) (base : Base) (word : List ℕ) (after : Result (Base × T) Refused) → KeepIds base after
    → (q : ℕ) → is_some (finite.get (edit_outcome shown base word after).base.triggers q) ≡ is_some (finite.get base.triggers q)
base_of shown base word (Ok done) keep = keep
base_of shown base word (Err refused) keep = keep

-- commands that attach nothing and remove nothing
pub edit_keeps : (files : List (List ℕ)) (base : Base) (asked : Asked) → KeepsIds asked → (q : ℕ) → is_some (finite.get (outcome files base asked).base.triggers q) ≡ is_some (finite.get base.triggers q)
unfolding outcome outcome_about
edit_keeps files base (Asked.Load n) keeps = base_of decimal base (codes "loaded ") (after_load_file files base n) (same_ids base (after_load_file files base n) (load_file_stays files base n))
edit_keeps files base (Asked.Refilter id text) keeps = base_of decimal base (codes "refiltered ") (after_refilter_text base id text) (refilter_text_keeps base id text)
edit_keeps files base (Asked.About numbers.Unload cpu) keeps = base_of decimal base (codes "unloaded ") (after_unload base cpu) (same_ids base (after_unload base cpu) (unload_stays base cpu))
edit_keeps files base Asked.Nothing keeps = absurd keeps
edit_keeps files base (Asked.Insert line) keeps = absurd keeps
edit_keeps files base (Asked.Strike cpu line) keeps = absurd keeps
edit_keeps files base (Asked.Attach name text) keeps = absurd keeps
edit_keeps files base (Asked.About numbers.Remove id) keeps = absurd keeps
edit_keeps files base (Asked.About numbers.Hist id) keeps = absurd keeps
edit_keeps files base (Asked.About numbers.Totals id) keeps = absurd keeps
edit_keeps files base (Asked.About numbers.Latencies id) keeps = absurd keeps
edit_keeps files base (Asked.About numbers.Lane cpu) keeps = absurd keeps
edit_keeps files base Asked.NoForm keeps = absurd keeps

answered : {T : Type 0} (shown : T → List ℕ) (base : Base) (answer : Result T Refused) → (answer_outcome shown base answer).base ≡ base
answered shown base (Ok told) = refl
answered shown base (Err refused) = refl

-- commands that are no edit
pub answer_stays : (files : List (List ℕ)) (base : Base) (asked : Asked) → AsksNoEdit asked → (outcome files base asked).base ≡ base
unfolding outcome outcome_about
answer_stays files base Asked.Nothing none = refl
answer_stays files base Asked.NoForm none = refl
answer_stays files base (Asked.About numbers.Hist id) none = answered _ base _
answer_stays files base (Asked.About numbers.Totals id) none = answered _ base _
answer_stays files base (Asked.About numbers.Latencies id) none = answered _ base _
answer_stays files base (Asked.About numbers.Lane cpu) none = answered _ base _
answer_stays files base (Asked.About numbers.Unload cpu) none = absurd none
answer_stays files base (Asked.About numbers.Remove id) none = absurd none
answer_stays files base (Asked.Load n) none = absurd none
answer_stays files base (Asked.Insert line) none = absurd none
answer_stays files base (Asked.Strike cpu line) none = absurd none
answer_stays files base (Asked.Attach name text) none = absurd none
answer_stays files base (Asked.Refilter id text) none = absurd none

-- the command that removes
pub remove_leaves : (files : List (List ℕ)) (base : Base) (id : ℕ) → Removes id base (outcome files base (Asked.About numbers.Remove id))
unfolding outcome outcome_about
remove_leaves files base id = remove_removes base id

-- the triggers of the base that an accepted edit leaves
pub stayed : {T : Type 0} (base new : Base) (value : T) (after : Result (Base × T) Refused) → after ≡ Ok (new, value) → Stay base after → new.triggers ≡ base.triggers
stayed base new value after is stay = ap (triggers_of base) (sym is) ∙ stay
