use Rattle.std.proofs.Common.{◌≡◌, List, refl, sym, ap, subst, ◌∙◌, arith, rules, Bool, true, false}
use Rattle.std.specs.Result.{result_from_control_flow}
use Rattle.ft_repair.proofs.Repaired.{went}
use Rattle.std.specs.List.{AllByRecursion}
use Rattle.std.specs.FinMap as map
use Rattle.std.proofs.lemmas.List.{drop_all}
use Rattle.ft_kept.specs.Views.{triggers_of}
use Rattle.ft_kept.proofs.Forms.{forms_refl, forms_trans}
use Rattle.ft_kept.proofs.Told.{readings_same, readings_trans}
use Rattle.ft_repair.proofs.Changing.{next_of, next_views, next_held, next_before, changing_fewer}
use Rattle.ft_repair.proofs.EventLists.{going_listed, listed_own, event_plain, events_none, count_events, counted, first_left, lane_counts}
use Rattle.ft_replay.specs.Costs.{count_on_lane}
use Rattle.ft_base.specs.Base.{Triggers}
use Rattle.ft_base.specs.Reachable.{HasSavers}
use Rattle.ft_fields.specs.Traced.{Traced}
use Rattle.ft_fields.specs.declared.pos.Pos.{Pos}
use Rattle.ft_lanes.specs.Held.{Lane, Lanes}
use Rattle.ft_maps.specs.Mapped.{entries_by}
use Rattle.ft_repair.specs.KeptShelves.{AreKept}
use Rattle.ft_repair.specs.inner.Going.{HasItsLane}
use Rattle.ft_replay.proofs.Stepping.{grow_more, grow_none}
use Rattle.ft_replay.specs.Merged.{merged}
use Rattle.ft_shelves.specs.declared.sign.Sign.TheVariants.{Retract}
use Rattle.ft_store.specs.Stored.{held}
use Rattle.ft_repair.proofs.lane.take_listed.Goals as goal

pub loop-pos-init : goal.loop-pos-init
loop-pos-init c =
    let triggers : Triggers = triggers_of c.scene_of-scene.result in
    let lanes : Lanes = c.scene_of-scene.result.lanes.now in
    let es : List (Pos × Traced) = entries_by held c.args.events.now in
    let savers : HasSavers triggers = subst HasSavers (sym c.scene_of-scene.ensures.triggers) c.scene_of-scene.ensures.savers in
    let listed : HasItsLane lanes c.args.cpu es = subst (λ (l : Lanes). HasItsLane l c.args.cpu es) (sym c.scene_of-scene.ensures.lanes) c.requires.listed in
    let kept : AreKept triggers (merged lanes) c.args.tables.now =
    subst (λ (both : Triggers × Lanes). AreKept both.0 (merged both.1) c.args.tables.now) (λ i. (sym c.scene_of-scene.ensures.triggers i, sym c.scene_of-scene.ensures.lanes i)) c.requires.kept in
    record {
      going = going_listed triggers lanes c.args.cpu es listed savers c.args.tables.now kept;
      own = listed_own triggers lanes c.args.cpu es listed;
      evals = λ lane there.
          let counts : count_events triggers es ≡ count_on_lane c.args.content.now.triggers lane =
          lane_counts triggers lanes c.args.cpu lane (ap (λ (all : Lanes). map.get all c.args.cpu) c.scene_of-scene.ensures.lanes ∙ there) es listed
          ∙ ap (λ (ts : Triggers). count_on_lane ts lane) c.scene_of-scene.ensures.triggers in
          omega (arith, counts);
      forms = forms_refl c.args.tables.now;
      reread = readings_same c.args.changes.now.readings c.args.changes.now.readings c.args.tables.now c.args.tables.now refl (λ id pos. refl);
      quiet = λ plain. refl;
      grow = grow_none _;
    }

pub apply-requires : goal.apply-requires
apply-requires c =
    let more = first_left c.args.events.now c.loop-pos.pos-index c.loop-pos-item.result c.event.result c.loop-pos-test.true c.loop-pos-item.is c.event.ensures in
    let is = next_of more c.loop-pos.invariant.going in
    record { views = next_views is; held = next_held is; before = λ id. next_before is id refl }

pub loop-pos-preserved : goal.loop-pos-preserved
loop-pos-preserved c =
    let more = first_left c.args.events.now c.loop-pos.pos-index c.loop-pos-item.result c.event.result c.loop-pos-test.true c.loop-pos-item.is c.event.ensures in
    record {
      going = changing_fewer (next_of more c.loop-pos.invariant.going) c.apply.new.self c.in_ok-apply.ensures.forms c.in_ok-apply.ensures.views;
      own = (subst (AllByRecursion (λ (e : Pos × Traced). e.0.cpu ≡ c.args.cpu)) more c.loop-pos.invariant.own).1;
      evals = λ lane there. let count = counted (triggers_of c.scene_of-scene.result) more in let before = c.loop-pos.invariant.evals lane there in omega (arith, before, count, c.in_ok-apply.ensures.evals);
      forms = forms_trans c.args.tables.now c.loop-pos.tables c.apply.new.self c.loop-pos.invariant.forms c.in_ok-apply.ensures.forms;
      reread = readings_trans c.loop-pos.invariant.reread c.in_ok-apply.ensures.told.told.under.readings;
      quiet = λ plain. c.in_ok-apply.ensures.quiet (event_plain c.args.content.now c.scene_of-scene.ensures.triggers c.scene_of-scene.ensures.lanes c.args.cpu more c.loop-pos.invariant.going c.loop-pos.invariant.own plain) ∙ c.loop-pos.invariant.quiet plain;
      grow = grow_more _ _ _ c.loop-pos.invariant.grow c.in_ok-apply.ensures.grow;
    }

pub returns-in_err-apply : goal.returns-in_err-apply
returns-in_err-apply c =
    let more = first_left c.args.events.now c.loop-pos.pos-index c.loop-pos-item.result c.event.result c.loop-pos-test.true c.loop-pos-item.is c.event.ensures in
    record {
      kept = search rules;
      forms = search rules;
      reread = search rules;
      quiet = λ plain. c.apply.ensures.quiet (event_plain c.args.content.now c.scene_of-scene.ensures.triggers c.scene_of-scene.ensures.lanes c.args.cpu more c.loop-pos.invariant.going c.loop-pos.invariant.own plain) ∙ c.loop-pos.invariant.quiet plain;
      now = λ plain.
          let both : ◌≡◌ {A = Bool} true false = ap went (sym (c.apply.ensures.memory (event_plain c.args.content.now c.scene_of-scene.ensures.triggers c.scene_of-scene.ensures.lanes c.args.cpu more c.loop-pos.invariant.going c.loop-pos.invariant.own plain))) ∙ ap went c.branch-apply.ensures ∙ ap (λ flow. went (result_from_control_flow flow)) c.in_err-apply.is in
          absurd cc;
      evals = λ lane there. omega (arith, c.loop-pos.invariant.evals lane there, counted (triggers_of c.scene_of-scene.result) more, c.apply.ensures.evals);
      grow = grow_more _ _ _ c.loop-pos.invariant.grow c.apply.ensures.grow;
    }

pub returns : goal.returns
returns c = record {
  kept =
      subst (λ (both : Triggers × Lanes). AreKept both.0 (merged (map.remove both.1 c.args.cpu)) c.loop-pos.tables) (λ i. (c.scene_of-scene.ensures.triggers i, c.scene_of-scene.ensures.lanes i))
      (events_none _ _ Retract _ _ (ap (entries_by held) (drop_all c.loop-pos.pos-index c.args.events.now c.loop-pos-test.false)) c.loop-pos.invariant.going);
  forms = c.loop-pos.invariant.forms;
  reread = c.loop-pos.invariant.reread;
  quiet = c.loop-pos.invariant.quiet;
  now = λ plain. refl;
  evals = λ lane there. omega (arith, c.loop-pos.invariant.evals lane there);
  grow = c.loop-pos.invariant.grow;
}
