use Rattle.std.proofs.Common.{◌≡◌, ℕ, ◌+◌, ◌*◌, Bool, true, false, List, ◌∷◌, refl, sym, ap, subst, ◌∙◌, Some, Result, Ok, Err, option_and_then, arith}
use Rattle.std.specs.Result.{result_from_control_flow}
use Rattle.std.specs.declared.alloc.AllocError.{AllocError}
use Rattle.std.specs.FinMap as map
use Rattle.std.specs.Map.Iter.{deref_pair}
use Rattle.std.proofs.lemmas.Map.Iter.{rest_more, rest_all}
use Rattle.ft_fields.specs.Traced.{Traced}
use Rattle.ft_fields.specs.declared.pos.Pos.{Pos}
use Rattle.ft_hist.specs.Hist.{Hist}
use Rattle.ft_hist.specs.Triggers.{Triggers}
use Rattle.ft_hist.specs.Tests.{count_on}
use Rattle.ft_shelves.specs.declared.sign.Sign.{Sign}
use Rattle.ft_shelves.specs.declared.sign.Sign.TheVariants.{Insert, Retract}
use Rattle.ft_shelves.specs.Shelves.{Shelves, FormsStay}
use Rattle.ft_kept.specs.Acts.{Acts}
use Rattle.ft_kept.specs.Input.{input_of}
use Rattle.ft_kept.specs.Views.{AreViewsOf, act_by_id, act_under, set, triggers_of, with_some}
use Rattle.ft_kept.specs.Signs.{event_before, event_after, NeedsNoMemory, NeedsNoMemoryAt}
use Rattle.ft_kept.proofs.Between.{AreLeft, IsFirst, act_of, all_but, all_left, asked_of, asked_more, first_left, not_attached}
use Rattle.ft_kept.proofs.FewPuts.{few_all, few_first, few_puts, left_refl, left_step, steps_refl, steps_trans}
use Rattle.ft_kept.proofs.Forms.{forms_refl, forms_trans, roles_stay}
use Rattle.ft_kept.proofs.Input.{acts_are, tells}
use Rattle.ft_kept.proofs.Told.{told_all, told_first, told_more}
use Rattle.ft_kept.proofs.Views.{attached_act, none_done, not_done, one_done, views_as}
use Rattle.ft_kept.proofs.tables.Tables.apply.Goals as goal

pub loop-id-init : goal.loop-id-init
loop-id-init c =
    let triggers : Triggers = triggers_of c.args.scene.now in
    let lanes = c.args.scene.now.lanes.now in
    let input = input_of triggers lanes c.args.self.now in
    let delta = c.args.delta.now in
    let event = delta.event.now in
    let all : c.into_iter-id-iterator.result ≡ map.entries triggers = c.into_iter-id-iterator.ensures.into_iter_gives ∙ c.iter-id-items.ensures.rest in
    let none = not_attached triggers in
    record {
      left = subst (AreLeft triggers) (sym all) (all_left triggers);
      forms = forms_refl c.args.self.now;
      views = subst (λ (es : List (ℕ × Hist)). AreViewsOf triggers lanes (with_some triggers input delta.pos (event_after delta.sign event) (all_but es)) c.args.self.now) (sym all)
          (views_as triggers lanes input _ c.args.self.now
          (sym (none_done triggers input delta.pos (event_before delta.sign event) (event_after delta.sign event) c.requires.before (all_but (map.entries triggers)) none)) c.requires.views);
      told = told_first all;
      evals = ap (λ (es : List (ℕ × Hist)). c.args.work.now.evals + asked_of event es) all;
      savers = left_refl (all_but c.into_iter-id-iterator.result) c.args.self.now;
      puts = few_first c.args.work.now.puts _ _ (ap (asked_of event) all);
      quiet = λ plain. refl;
      grow = steps_refl c.args.work.now;
    }

-- the first of the triggers that are left
module _ (triggers : Triggers) (left rest : List (ℕ × Hist)) (e : ℕ × Hist) (first : IsFirst triggers e left rest)
    (acts now : Acts) (pos : Pos) (sign : Sign) (event : Traced) (held_before : (id : ℕ) → acts (act_of pos id) ≡ act_by_id triggers id (event_before sign event))
    (told : now ≡ with_some triggers acts pos (event_after sign event) (all_but left)) where
  -- its acts are still to change
  as_before : now (act_of pos e.0) ≡ option_and_then (act_under e.1) (event_before sign event)
  as_before = ap (λ (a : Acts). a (act_of pos e.0)) told
      ∙ not_done triggers acts pos (event_before sign event) (event_after sign event) held_before (all_but left) e.0 first.too.was
      ∙ attached_act triggers e.0 e.1 first.attached (event_before sign event)

  -- and then it is done
  and_then_done : set now (act_of pos e.0) (option_and_then (act_under e.1) (event_after sign event)) ≡ with_some triggers acts pos (event_after sign event) (all_but rest)
  and_then_done = (λ i. set (told i) (act_of pos e.0) (sym (attached_act triggers e.0 e.1 first.attached (event_after sign event)) i))
      ∙ one_done triggers acts pos (event_before sign event) (event_after sign event) held_before e.0 (all_but left) (all_but rest) first.too

pub apply_to-requires : goal.apply_to-requires
apply_to-requires c =
    let triggers : Triggers = triggers_of c.args.scene.now in
    let lanes = c.args.scene.now.lanes.now in
    let delta = c.args.delta.now in
    let e : ℕ × Hist = (c.in-Some.id.now, c.in-Some.trigger.now) in
    let has = c.loop-id.invariant in
    let first = first_left {e = e} (rest_more (deref_pair {K = ℕ} {X = Hist}) _ _ _ _ c.in-Some.is c.next.ensures.steps) has.left in
    record {
      views = tells triggers lanes _ c.loop-id.self has.views;
      its = first.attached;
      held = c.requires.held;
      before = as_before triggers c.loop-id.id-iterator c.next.new.self e first (input_of triggers lanes c.args.self.now) (input_of triggers lanes c.loop-id.self) delta.pos delta.sign delta.event.now
          c.requires.before (acts_are triggers lanes _ c.loop-id.self has.views);
    }

pub loop-id-preserved : goal.loop-id-preserved
loop-id-preserved c =
    let triggers : Triggers = triggers_of c.args.scene.now in
    let lanes = c.args.scene.now.lanes.now in
    let left = c.loop-id.id-iterator in
    let rest = c.next.new.self in
    let delta = c.args.delta.now in
    let event = delta.event.now in
    let e : ℕ × Hist = (c.in-Some.id.now, c.in-Some.trigger.now) in
    let more : left ≡ e ∷ rest = rest_more (deref_pair {K = ℕ} {X = Hist}) _ _ _ _ c.in-Some.is c.next.ensures.steps in
    let has = c.loop-id.invariant in
    let did = c.in_ok-apply_to.ensures in
    let first = first_left {e = e} more has.left in
    record {
      left = first.others;
      forms = forms_trans c.args.self.now c.loop-id.self c.apply_to.new.self has.forms did.forms;
      views = views_as triggers lanes _ _ c.apply_to.new.self
          (and_then_done triggers left rest e first (input_of triggers lanes c.args.self.now) (input_of triggers lanes c.loop-id.self) delta.pos delta.sign event
          c.requires.before (acts_are triggers lanes _ c.loop-id.self has.views)) did.views;
      told = told_more more has.forms has.told did.told;
      evals = ap (λ n. n + asked_of event rest) did.evals ∙ omega (arith, asked_more event e rest, ap (asked_of event) more, has.evals);
      savers = left_step e.0 (all_but left) (all_but rest) first.too c.args.self.now c.loop-id.self c.apply_to.new.self has.forms did.savers has.savers;
      puts = few_puts c.loop-id.self event c.loop-id.work.puts c.apply_to.new.work.puts (c.args.work.now.puts + 3 * count_on triggers event) more first has.forms has.savers has.puts did.puts;
      quiet = λ plain. did.quiet (λ key counted. roles_stay c.args.self.now c.loop-id.self has.forms e.0 ∙ plain e.0 e.1 first.attached key counted) ∙ has.quiet plain;
      grow = steps_trans c.args.work.now c.loop-id.work c.apply_to.new.work has.grow did.grow;
    }

pub returns-clause-views : goal.returns-clause-views
returns-clause-views c =
    let scene = c.args.scene.now in
    let delta = c.args.delta.now in
    subst (λ (es : List (ℕ × Hist)). AreViewsOf (triggers_of scene) scene.lanes.now (with_some (triggers_of scene) (input_of (triggers_of scene) scene.lanes.now c.args.self.now) delta.pos (event_after delta.sign delta.event.now) (all_but es)) c.loop-id.self)
    (rest_all (deref_pair {K = ℕ} {X = Hist}) _ _ _ c.in-None.is c.next.ensures.steps) c.loop-id.invariant.views

pub returns-clause-told : goal.returns-clause-told
returns-clause-told c = told_all c.loop-id.invariant.told

pub returns-clause-puts : goal.returns-clause-puts
returns-clause-puts c = few_all c.loop-id.work.puts (asked_of c.args.delta.now.event.now c.loop-id.id-iterator) _ c.loop-id.invariant.puts

pub returns-in_err-apply_to-clause-puts : goal.returns-in_err-apply_to-clause-puts
returns-in_err-apply_to-clause-puts c =
    let e : ℕ × Hist = (c.in-Some.id.now, c.in-Some.trigger.now) in
    let more : c.loop-id.id-iterator ≡ e ∷ c.next.new.self = rest_more (deref_pair {K = ℕ} {X = Hist}) _ _ _ _ c.in-Some.is c.next.ensures.steps in
    let has = c.loop-id.invariant in
    let limit = c.args.work.now.puts + 3 * count_on (triggers_of c.args.scene.now) c.args.delta.now.event.now in
    few_all c.apply_to.new.work.puts (asked_of c.args.delta.now.event.now c.next.new.self) limit (few_puts c.loop-id.self c.args.delta.now.event.now c.loop-id.work.puts c.apply_to.new.work.puts limit more (first_left more has.left) has.forms has.savers has.puts c.apply_to.ensures.puts)

-- whether a call went through
abbrev went : Result Unit AllocError → Bool
went (Ok done) = true
went (Err fault) = false

-- an event that takes no memory takes none at one trigger
takes_none : (sign : Sign) (triggers : Triggers) (start now : Shelves) → FormsStay start now → (event : Traced) (id : ℕ) (hist : Hist) → map.get triggers id ≡ Some hist → NeedsNoMemory sign triggers start event → NeedsNoMemoryAt sign now id hist event
takes_none Insert triggers start now forms event id hist there none = none id hist there
takes_none Retract triggers start now forms event id hist there plain = λ key counted. roles_stay start now forms id ∙ plain id hist there key counted

pub returns-in_err-apply_to-clause-memory : goal.returns-in_err-apply_to-clause-memory
returns-in_err-apply_to-clause-memory c none =
    let triggers : Triggers = triggers_of c.args.scene.now in
    let e : ℕ × Hist = (c.in-Some.id.now, c.in-Some.trigger.now) in
    let has = c.loop-id.invariant in
    let first = first_left {e = e} (rest_more (deref_pair {K = ℕ} {X = Hist}) _ _ _ _ c.in-Some.is c.next.ensures.steps) has.left in
    let done : c.apply_to.result ≡ Ok tt =
    c.apply_to.ensures.memory (takes_none c.args.delta.now.sign triggers c.args.self.now c.loop-id.self has.forms c.args.delta.now.event.now e.0 e.1 first.attached none) in
    let both : ◌≡◌ {A = Bool} true false = ap went (sym done) ∙ ap went c.branch-apply_to.ensures ∙ ap (λ flow. went (result_from_control_flow flow)) c.in_err-apply_to.is in
    absurd cc

pub returns-in_err-apply_to-clause-quiet : goal.returns-in_err-apply_to-clause-quiet
returns-in_err-apply_to-clause-quiet c plain =
    let e : ℕ × Hist = (c.in-Some.id.now, c.in-Some.trigger.now) in
    let has = c.loop-id.invariant in
    let first = first_left {e = e} (rest_more (deref_pair {K = ℕ} {X = Hist}) _ _ _ _ c.in-Some.is c.next.ensures.steps) has.left in
    c.apply_to.ensures.quiet (λ key counted. roles_stay c.args.self.now c.loop-id.self has.forms e.0 ∙ plain e.0 e.1 first.attached key counted) ∙ has.quiet plain
