use Rattle.std.proofs.Common.{◌≡◌, ℕ, List, refl, sym, ap, subst, ◌∙◌, Option, Some, None, unwrap_or, arith, rules, Bool, true, false}
use Rattle.std.specs.Result.{result_from_control_flow}
use Rattle.ft_repair.proofs.Repaired.{went}
use Rattle.std.specs.FinMap as map
use Rattle.ft_kept.specs.Views.{HasAt, triggers_of, with_event}
use Rattle.ft_kept.proofs.Views.{views_as}
use Rattle.ft_lanes.proofs.Counts.{remove_none}
use Rattle.ft_lanes.specs.Walks.{traced_line}
use Rattle.ft_repair.proofs.Changing.{next_of, next_views, next_held, next_before, changing_fewer}
use Rattle.ft_repair.proofs.EventLists.{IsGoing, placed, line_next, going_all, line_plain, events_none, no_lines, its_lines, count_events, counted}
use Rattle.ft_kept.proofs.Told.{readings_same, readings_trans}
use Rattle.ft_replay.specs.Costs.{count_on_lane}
use Rattle.ft_base.specs.Base.{Base, Triggers}
use Rattle.ft_base.specs.Reachable.{HasSavers}
use Rattle.ft_fields.specs.Traced.{Traced}
use Rattle.ft_fields.specs.declared.pos.Pos.{Pos}
use Rattle.ft_kept.proofs.Forms.{forms_refl, forms_trans}
use Rattle.ft_kept.specs.Input.{input_of}
use Rattle.ft_kept.specs.Repairs.{IsHeldAt}
use Rattle.ft_lanes.specs.Held.{Lane, Lanes}
use Rattle.ft_repair.specs.KeptShelves.{AreKept}
use Rattle.ft_replay.proofs.Stepping.{grow_more, grow_none}
use Rattle.ft_replay.specs.Merged.{merged, place_of}
use Rattle.ft_shelves.specs.declared.sign.Sign.TheVariants.{Retract}
use Rattle.std.proofs.lemmas.Map.Iter.{rest_all}
use Rattle.ft_repair.proofs.lane.take_lines.Goals as goal

pub returns-in_default : goal.returns-in_default
returns-in_default c =
    let base : Base = c.args.content.now in
    let none : map.get base.lanes c.args.cpu ≡ None = ap (λ (lanes : Lanes). map.get lanes c.args.cpu) (sym c.scene_of-scene.ensures.lanes) ∙ no_lines (map.get c.scene_of-scene.result.lanes.now c.args.cpu) c.in_default.ensures.rest in
    record {
      kept = subst (λ (lanes : Lanes). AreKept base.triggers (merged lanes) c.args.tables.now) (sym (remove_none base.lanes c.args.cpu none)) c.requires;
      forms = forms_refl c.args.tables.now;
      reread = readings_same c.args.changes.now.readings c.args.changes.now.readings c.args.tables.now c.args.tables.now refl (λ id pos. refl);
      quiet = λ plain. refl;
      now = λ plain. refl;
      evals = λ lane there. omega arith;
      grow = grow_none _;
    }

pub loop-line-init : goal.loop-line-init
loop-line-init c =
    let triggers : Triggers = triggers_of c.scene_of-scene.result in
    let lanes : Lanes = c.scene_of-scene.result.lanes.now in
    let savers : HasSavers triggers = subst HasSavers (sym c.scene_of-scene.ensures.triggers) c.scene_of-scene.ensures.savers in
    let its = its_lines (map.get lanes c.args.cpu) c.in-Some.lines c.in-Some.ensures.rest in
    let all : c.into_iter-line-iterator.result ≡ map.entries its.0.events = c.into_iter-line-iterator.ensures.into_iter_gives ∙ its.1.1 in
    let kept : AreKept triggers (merged lanes) c.args.tables.now =
    subst (λ (held : Triggers × Lanes). AreKept held.0 (merged held.1) c.args.tables.now) (λ i. (sym c.scene_of-scene.ensures.triggers i, sym c.scene_of-scene.ensures.lanes i)) c.requires in
    record {
      going = subst (λ (es : List (ℕ × Traced)). IsGoing triggers lanes c.args.cpu es c.args.tables.now) (sym all) (going_all triggers lanes c.args.cpu its.0 its.1.0 savers c.args.tables.now kept);
      evals = λ lane there.
          let same : its.0 ≡ lane = ap (λ (o : Option Lane). unwrap_or o lane) (sym its.1.0 ∙ ap (λ (all : Lanes). map.get all c.args.cpu) c.scene_of-scene.ensures.lanes ∙ there) in
          let counts : count_events triggers c.into_iter-line-iterator.result ≡ count_on_lane c.args.content.now.triggers lane = ap (count_events triggers) all ∙ (λ i. count_on_lane (c.scene_of-scene.ensures.triggers i) (same i)) in
          omega (arith, counts);
      forms = forms_refl c.args.tables.now;
      reread = readings_same c.args.changes.now.readings c.args.changes.now.readings c.args.tables.now c.args.tables.now refl (λ id pos. refl);
      quiet = λ plain. refl;
      grow = grow_none _;
    }

pub apply-requires : goal.apply-requires
apply-requires c =
    let triggers : Triggers = triggers_of c.scene_of-scene.result in
    let lanes : Lanes = c.scene_of-scene.result.lanes.now in
    let more = line_next _ _ _ _ _ c.in-Some-2.is c.next.ensures.steps c.event-event.ensures in
    let is = next_of (ap (placed c.args.cpu) more) c.loop-line.invariant.going in
    let place : place_of c.args.cpu (c.in-Some-2.line, c.event-event.result) ≡ (record { stamp = c.event.inside.stamp; cpu = c.args.cpu; line = c.in-Some-2.line }) = λ i. record { stamp = ap (λ (x : Traced). x.stamp) (sym c.event.view_is) i; cpu = c.args.cpu; line = c.in-Some-2.line } in
    record {
      views = next_views is;
      held = subst (λ (pos : Pos). IsHeldAt lanes pos c.event-event.result) place (next_held is);
      before = subst (λ (pos : Pos). HasAt triggers (input_of triggers lanes c.loop-line.tables) pos (Some c.event-event.result)) place (λ id. next_before is id refl);
    }

pub loop-line-preserved : goal.loop-line-preserved
loop-line-preserved c =
    let triggers : Triggers = triggers_of c.scene_of-scene.result in
    let lanes : Lanes = c.scene_of-scene.result.lanes.now in
    let more = line_next _ _ _ _ _ c.in-Some-2.is c.next.ensures.steps c.event-event.ensures in
    let going = next_of (ap (placed c.args.cpu) more) c.loop-line.invariant.going in
    let place : place_of c.args.cpu (c.in-Some-2.line, c.event-event.result) ≡ (record { stamp = c.event.inside.stamp; cpu = c.args.cpu; line = c.in-Some-2.line }) = λ i. record { stamp = ap (λ (x : Traced). x.stamp) (sym c.event.view_is) i; cpu = c.args.cpu; line = c.in-Some-2.line } in
    record {
      going = changing_fewer going c.apply.new.self c.in_ok-apply.ensures.forms (views_as triggers lanes _ _ c.apply.new.self
          (ap (λ (pos : Pos). with_event triggers (input_of triggers lanes c.loop-line.tables) pos None) (sym place)) c.in_ok-apply.ensures.views);
      evals = λ lane there. let count = counted (triggers_of c.scene_of-scene.result) more in let before = c.loop-line.invariant.evals lane there in omega (arith, before, count, c.in_ok-apply.ensures.evals);
      forms = forms_trans c.args.tables.now c.loop-line.tables c.apply.new.self c.loop-line.invariant.forms c.in_ok-apply.ensures.forms;
      reread = readings_trans c.loop-line.invariant.reread c.in_ok-apply.ensures.told.told.under.readings;
      quiet = λ plain. c.in_ok-apply.ensures.quiet (line_plain c.args.content.now c.scene_of-scene.ensures.triggers c.scene_of-scene.ensures.lanes c.args.cpu more c.loop-line.invariant.going plain) ∙ c.loop-line.invariant.quiet plain;
      grow = grow_more _ _ _ c.loop-line.invariant.grow c.in_ok-apply.ensures.grow;
    }

pub returns-in_err-apply : goal.returns-in_err-apply
returns-in_err-apply c =
    let more = line_next _ _ _ _ _ c.in-Some-2.is c.next.ensures.steps c.event-event.ensures in
    record {
      kept = search rules;
      forms = search rules;
      reread = search rules;
      quiet = λ plain. c.apply.ensures.quiet (line_plain c.args.content.now c.scene_of-scene.ensures.triggers c.scene_of-scene.ensures.lanes c.args.cpu more c.loop-line.invariant.going plain) ∙ c.loop-line.invariant.quiet plain;
      now = λ plain.
          let both : ◌≡◌ {A = Bool} true false = ap went (sym (c.apply.ensures.memory (line_plain c.args.content.now c.scene_of-scene.ensures.triggers c.scene_of-scene.ensures.lanes c.args.cpu more c.loop-line.invariant.going plain))) ∙ ap went c.branch-apply.ensures ∙ ap (λ flow. went (result_from_control_flow flow)) c.in_err-apply.is in
          absurd cc;
      evals = λ lane there. omega (arith, c.loop-line.invariant.evals lane there, counted (triggers_of c.scene_of-scene.result) more, c.apply.ensures.evals);
      grow = grow_more _ _ _ c.loop-line.invariant.grow c.apply.ensures.grow;
    }

pub returns : goal.returns
returns c = record {
  kept =
      subst (λ (held : Triggers × Lanes). AreKept held.0 (merged (map.remove held.1 c.args.cpu)) c.loop-line.tables) (λ i. (c.scene_of-scene.ensures.triggers i, c.scene_of-scene.ensures.lanes i))
      (events_none _ _ Retract _ _ (ap (placed c.args.cpu) (rest_all traced_line _ _ _ c.in-None.is c.next.ensures.steps)) c.loop-line.invariant.going);
  forms = c.loop-line.invariant.forms;
  reread = c.loop-line.invariant.reread;
  quiet = c.loop-line.invariant.quiet;
  now = λ plain. refl;
  evals = λ lane there. omega (arith, c.loop-line.invariant.evals lane there);
  grow = c.loop-line.invariant.grow;
}
