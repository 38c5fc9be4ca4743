use Rattle.std.proofs.Common.{true, false, ℕ, ◌≡◌, ◌∷◌, List, Some, sym, ap, subst, ◌∙◌, arith}
use Rattle.std.specs.FinMap as map
use Rattle.ft_repair.proofs.Families.{in_family}
use Rattle.ft_repair.proofs.Putting.{IsPut, tests_in, next_put, put_none, put_skip, put_more, put_all, told_idle, idle_first, tests_next, own_listed}
use Rattle.ft_repair.proofs.KeptFor.{for_kept}
use Rattle.ft_replay.specs.Costs.{family_tests}
use Rattle.ft_base.specs.Base.{Triggers}
use Rattle.ft_base.specs.OneTrigger.{is_in_family}
use Rattle.ft_base.specs.Reachable.{HasSavers}
use Rattle.ft_base.specs.Roles.{role_of}
use Rattle.ft_fields.specs.declared.event.Name.{Name}
use Rattle.ft_hist.specs.Hist.{Hist}
use Rattle.ft_hist.specs.Hit.{same_name}
use Rattle.ft_kept.specs.Views.{triggers_of}
use Rattle.ft_lanes.specs.Held.{Lanes}
use Rattle.ft_maps.specs.Mapped.{entries_by}
use Rattle.ft_repair.specs.KeptShelves.{AreKept}
use Rattle.ft_repair.specs.Outside.{AreKeptOutside}
use Rattle.ft_replay.proofs.Stepping.{grow_more, grow_none}
use Rattle.ft_replay.specs.Merged.{merged}
use Rattle.ft_store.specs.Stored.{held}
use Rattle.std.proofs.lemmas.Map.Iter.{rest_all, rest_more}
use Rattle.std.specs.Map.Iter.{deref_pair}
use Rattle.ft_repair.proofs.triggers.join_family.Goals as goal

pub loop-id-init : goal.loop-id-init
loop-id-init c =
    let triggers : Triggers = triggers_of c.scene_of-scene.result in
    let lanes : Lanes = c.scene_of-scene.result.lanes.now in
    let family = is_in_family triggers c.args.head in
    let all : c.into_iter-id-iterator.result ≡ map.entries triggers = c.into_iter-id-iterator.ensures.into_iter_gives ∙ c.iter-id-items.ensures.rest in
    let savers : HasSavers triggers = subst HasSavers (sym c.scene_of-scene.ensures.triggers) c.scene_of-scene.ensures.savers in
    let outside : AreKeptOutside family triggers lanes c.args.tables.now =
    subst (λ (held : Triggers × Lanes). AreKeptOutside (is_in_family held.0 c.args.head) held.0 held.1 c.args.tables.now) (λ i. (sym c.scene_of-scene.ensures.triggers i, sym c.scene_of-scene.ensures.lanes i)) c.requires in
    record {
      put = subst (λ (es : List (ℕ × Hist)). IsPut triggers lanes family es c.renew_shelves.new.tables) (sym all) (put_none triggers lanes family c.renew_shelves.new.tables (outside savers c.renew_shelves.new.tables c.in_ok-renew_shelves.ensures));
      evals =
          let tests = ap (tests_in family lanes) all in
          let same : family_tests triggers lanes c.args.head ≡ family_tests c.args.content.now.triggers c.args.content.now.lanes c.args.head = λ i. family_tests (c.scene_of-scene.ensures.triggers i) (c.scene_of-scene.ensures.lanes i) c.args.head in
          omega (arith, tests, same);
      grow = grow_none _;
    }

pub put_events-requires : goal.put_events-requires
put_events-requires c =
    let e : ℕ × Hist = (c.in-Some.id.now, c.in-Some.trigger.now) in
    let is = next_put (rest_more (deref_pair {K = ℕ} {X = Hist}) _ _ _ _ c.in-Some.is c.next.ensures.steps) c.loop-id.invariant.put in
    let member = in_family _ (Some c.args.head) e is.attached.0 (c.role_of.ensures ∙ ap (role_of _) c.variable.ensures) c.is_kin.ensures c.if-is_kin.true in
    record {
      listed = (own_listed c.scene_of-scene.result.lanes.now e.1 (λ name. c.only.ensures name ∙ ap (λ (own : Name). same_name own name) c.event.ensures) c.deref.result.now (ap (entries_by held) c.deref.ensures.value ∙ c.in_ok-events.ensures)).0;
      can = record { attached = is.attached.0; kept = told_idle is; idle = idle_first is member };
    }

pub loop-id-preserved-then-is_kin : goal.loop-id-preserved-then-is_kin
loop-id-preserved-then-is_kin c =
    let e : ℕ × Hist = (c.in-Some.id.now, c.in-Some.trigger.now) in
    let more : c.loop-id.id-iterator ≡ e ∷ c.next.new.self = rest_more (deref_pair {K = ℕ} {X = Hist}) _ _ _ _ c.in-Some.is c.next.ensures.steps in
    let is = next_put more c.loop-id.invariant.put in
    let member = in_family _ (Some c.args.head) e is.attached.0 (c.role_of.ensures ∙ ap (role_of _) c.variable.ensures) c.is_kin.ensures c.if-is_kin.true in
    let tests = tests_next (is_in_family (triggers_of c.scene_of-scene.result) c.args.head) c.scene_of-scene.result.lanes.now more true member in
    let its = own_listed c.scene_of-scene.result.lanes.now e.1 (λ name. c.only.ensures name ∙ ap (λ (own : Name). same_name own name) c.event.ensures) c.deref.result.now (ap (entries_by held) c.deref.ensures.value ∙ c.in_ok-events.ensures) in
    record {
      put = put_more is c.put_events.new.tables c.in_ok-put_events.ensures.joined;
      evals = omega (arith, c.loop-id.invariant.evals, tests, c.in_ok-put_events.ensures.evals, its.1);
      grow = grow_more _ _ _ c.loop-id.invariant.grow c.in_ok-put_events.ensures.grow;
    }

pub loop-id-preserved : goal.loop-id-preserved
loop-id-preserved c =
    let e : ℕ × Hist = (c.in-Some.id.now, c.in-Some.trigger.now) in
    let more : c.loop-id.id-iterator ≡ e ∷ c.next.new.self = rest_more (deref_pair {K = ℕ} {X = Hist}) _ _ _ _ c.in-Some.is c.next.ensures.steps in
    let is = next_put more c.loop-id.invariant.put in
    let out = in_family _ (Some c.args.head) e is.attached.0 (c.role_of.ensures ∙ ap (role_of _) c.variable.ensures) c.is_kin.ensures c.if-is_kin.false in
    let tests = tests_next (is_in_family (triggers_of c.scene_of-scene.result) c.args.head) c.scene_of-scene.result.lanes.now more false out in
    record { put = put_skip is out; evals = omega (arith, c.loop-id.invariant.evals, tests); grow = c.loop-id.invariant.grow }

pub returns-clause-kept : goal.returns-clause-kept
returns-clause-kept c =
    let lanes : Lanes = c.scene_of-scene.result.lanes.now in
    subst (λ (held : Triggers × Lanes). AreKept held.0 (merged held.1) c.loop-id.tables) (λ i. (c.scene_of-scene.ensures.triggers i, c.scene_of-scene.ensures.lanes i))
    (for_kept (triggers_of c.scene_of-scene.result) lanes (merged lanes) c.loop-id.tables (put_all (rest_all (deref_pair {K = ℕ} {X = Hist}) _ _ _ c.in-None.is c.next.ensures.steps) c.loop-id.invariant.put))

pub returns-in_err-put_events-clause-evals : goal.returns-in_err-put_events-clause-evals
returns-in_err-put_events-clause-evals c =
    let e : ℕ × Hist = (c.in-Some.id.now, c.in-Some.trigger.now) in
    let more : c.loop-id.id-iterator ≡ e ∷ c.next.new.self = rest_more (deref_pair {K = ℕ} {X = Hist}) _ _ _ _ c.in-Some.is c.next.ensures.steps in
    let member = in_family _ (Some c.args.head) e (next_put more c.loop-id.invariant.put).attached.0 (c.role_of.ensures ∙ ap (role_of _) c.variable.ensures) c.is_kin.ensures c.if-is_kin.true in
    let tests = tests_next (is_in_family (triggers_of c.scene_of-scene.result) c.args.head) c.scene_of-scene.result.lanes.now more true member in
    let its = own_listed c.scene_of-scene.result.lanes.now e.1 (λ name. c.only.ensures name ∙ ap (λ (own : Name). same_name own name) c.event.ensures) c.deref.result.now (ap (entries_by held) c.deref.ensures.value ∙ c.in_ok-events.ensures) in
    omega (arith, c.loop-id.invariant.evals, tests, c.put_events.ensures.evals, its.1)
