use Rattle.std.proofs.Common.{◌≡◌, ℕ, ◌+◌, ◌*◌, ◌≤◌, Some, None, Option, refl, sym, ap, ◌∙◌, inl, inr, arith, ◌⊎◌, option_and_then, option_map, List, []}
use Rattle.std.proofs.lemmas.Result.{on_ok_weaker}
use Rattle.ft_fields.specs.Traced.{Traced}
use Rattle.ft_hist.specs.Hist.{Hist}
use Rattle.ft_hist.specs.Hit.{hit}
use Rattle.ft_hist.specs.Tests.{tests_taken}
use Rattle.ft_fields.specs.declared.key.Part.{Part}
use Rattle.ft_pairs.specs.declared.role.Role.TheVariants.{Plain}
use Rattle.ft_shelves.specs.Shelves.{Shelves, role_on}
use Rattle.ft_shelves.specs.declared.sign.Sign.{Sign}
use Rattle.ft_shelves.specs.declared.sign.Sign.TheVariants.{Insert, Retract}
use Rattle.ft_shelves.proofs.Decided.{none_not_some}
use Rattle.ft_kept.specs.Input.{input_of}
use Rattle.ft_kept.specs.Signs.{NeedsNoMemoryAt, act_after, act_before, event_before, event_after}
use Rattle.ft_kept.specs.Views.{act_under, set, triggers_of}
use Rattle.ft_kept.proofs.FewPuts.{hit_asked}
use Rattle.ft_kept.proofs.Forms.{forms_refl}
use Rattle.ft_kept.proofs.Told.{told_nothing}
use Rattle.ft_kept.proofs.Views.{set_same, views_as}
use Rattle.ft_kept.proofs.tables.Tables.apply_to.Goals as goal

-- ---- an event that is no hit

-- it is no act, whether it is held or not
no_act : (hist : Hist) (event : Traced) → hit hist event ≡ None → (sign : Sign) → (option_and_then (act_under hist) (event_before sign event) ≡ None) × (option_and_then (act_under hist) (event_after sign event) ≡ None)
no_act hist event none Insert = (refl, ap (λ (o : Option (List Part)). option_map (λ key. (key, event)) o) none)
no_act hist event none Retract = (ap (λ (o : Option (List Part)). option_map (λ key. (key, event)) o) none, refl)

pub returns-in_default-clause-forms : goal.returns-in_default-clause-forms
returns-in_default-clause-forms c = forms_refl c.args.self.now

pub returns-in_default-clause-views : goal.returns-in_default-clause-views
returns-in_default-clause-views c =
    let scene = c.args.scene.now in
    let input = input_of (triggers_of scene) scene.lanes.now c.args.self.now in
    let none = no_act c.args.attached.now.trigger.now c.args.delta.now.event.now (sym c.key_of.ensures.key ∙ c.in_default.is) c.args.delta.now.sign in
    views_as (triggers_of scene) scene.lanes.now input _ c.args.self.now
    (sym (set_same input (record { pos = c.args.delta.now.pos; trigger = c.args.attached.now.id }) _ (c.requires.before ∙ none.0 ∙ sym none.1))) c.requires.views

pub returns-in_default-clause-told : goal.returns-in_default-clause-told
returns-in_default-clause-told c = record { keys = []; few = λ whose. omega arith; told = told_nothing c.args.changes.now c.args.self.now }

-- ---- a hit

module _ (hist : Hist) (event : Traced) (key : List Part) (one : hit hist event ≡ Some key) where
  -- its act is there before, if the event is
  is_before : (sign : Sign) → option_and_then (act_under hist) (event_before sign event) ≡ act_before sign (key, event)
  is_before Insert = refl
  is_before Retract = ap (λ (o : Option (List Part)). option_map (λ key. (key, event)) o) one

  -- and so afterwards
  is_after : (sign : Sign) → option_and_then (act_under hist) (event_after sign event) ≡ act_after sign (key, event)
  is_after Insert = ap (λ (o : Option (List Part)). option_map (λ key. (key, event)) o) one
  is_after Retract = refl

  -- it takes no memory only as one that goes from a trigger without a variable
  retracts : (sign : Sign) (shelves : Shelves) (id : ℕ) → NeedsNoMemoryAt sign shelves id hist event → (sign ≡ Retract) × (role_on shelves id ≡ Plain)
  retracts Insert shelves id none = absurd (none_not_some (hit hist event) key none one)
  retracts Retract shelves id plain = (refl, plain key one)

  few_asked : {Else : Type 0} (before mid after : ℕ) → mid ≡ before → (after ≤ mid + 3) ⊎ Else → (after ≤ before + 3 * tests_taken hist event) ⊎ Else
  few_asked before mid after same (inl few) = inl (omega (arith, same, few, hit_asked hist event key one))
  few_asked before mid after same (inr it) = inr it

pub change_act-requires : goal.change_act-requires
change_act-requires c =
    let one : hit c.args.attached.now.trigger.now c.args.delta.now.event.now ≡ Some c.in-Some.key = sym c.key_of.ensures.key ∙ c.in-Some.is in
    record {
      views = c.requires.views;
      attached = c.requires.its;
      held = c.requires.held;
      counts = one;
      was = c.requires.before ∙ is_before c.args.attached.now.trigger.now c.args.delta.now.event.now c.in-Some.key one c.args.delta.now.sign;
    }

pub returns-clause-forms : goal.returns-clause-forms
returns-clause-forms c = on_ok_weaker c.change_act.result (λ h. h.forms) c.change_act.ensures.changed

pub returns-clause-savers : goal.returns-clause-savers
returns-clause-savers c = on_ok_weaker c.change_act.result (λ h. h.savers) c.change_act.ensures.changed

pub returns-clause-views : goal.returns-clause-views
returns-clause-views c =
    let scene = c.args.scene.now in
    let input = input_of (triggers_of scene) scene.lanes.now c.args.self.now in
    on_ok_weaker c.change_act.result (λ h. views_as (triggers_of scene) scene.lanes.now _ _ c.change_act.new.tables
    (ap (set input (record { pos = c.args.delta.now.pos; trigger = c.args.attached.now.id }))
    (sym (is_after c.args.attached.now.trigger.now c.args.delta.now.event.now c.in-Some.key (sym c.key_of.ensures.key ∙ c.in-Some.is) c.args.delta.now.sign))) h.views) c.change_act.ensures.changed

pub returns-clause-puts : goal.returns-clause-puts
returns-clause-puts c =
    few_asked c.args.attached.now.trigger.now c.args.delta.now.event.now c.in-Some.key (sym c.key_of.ensures.key ∙ c.in-Some.is) c.args.work.now.puts c.key_of.new.work.puts c.change_act.new.work.puts c.key_of.ensures.puts c.change_act.ensures.puts

pub returns-clause-memory : goal.returns-clause-memory
returns-clause-memory c none =
    let goes = retracts c.args.attached.now.trigger.now c.args.delta.now.event.now c.in-Some.key (sym c.key_of.ensures.key ∙ c.in-Some.is) c.args.delta.now.sign c.args.self.now c.args.attached.now.id none in
    c.change_act.ensures.memory goes.0 goes.1
