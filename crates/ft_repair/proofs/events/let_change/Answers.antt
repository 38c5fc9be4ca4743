use Rattle.std.proofs.Common.{refl, subst, rules}
use Rattle.std.specs.FinMap as map
use Rattle.ft_kept.specs.Changes.{HasToldFew}
use Rattle.ft_repair.proofs.Changing.{next_views, next_before}
use Rattle.ft_repair.proofs.KeptShelves.{Grounds}
use Rattle.ft_repair.proofs.OneEvent.{may_change, moving, kept_after, plain_acts, needs_none, change_costs}
use Rattle.ft_repair.proofs.Repaired.{if_there}
use Rattle.ft_base.specs.Base.{Triggers}
use Rattle.ft_kept.specs.Shelves.{FormsStay}
use Rattle.ft_kept.specs.Views.{triggers_of}
use Rattle.std.specs.Option.{IfSome}
use Rattle.ft_repair.proofs.events.let_change.Goals as goal

pub apply-requires : goal.apply-requires
apply-requires c =
    let scene = c.scene_of-scene.ensures in
    let may = may_change c.args.content.now scene.triggers scene.lanes scene.savers c.args.delta.now.sign c.args.delta.now.pos c.args.delta.now.event.now c.requires.held c.in-Some.ensures.value c.requires.kept in
    record { views = next_views (moving may); held = may.held; before = λ id. next_before (moving may) id refl }

pub returns-in-Ok : goal.returns-in-Ok
returns-in-Ok c =
    let scene = c.scene_of-scene.ensures in
    let may = may_change c.args.content.now scene.triggers scene.lanes scene.savers c.args.delta.now.sign c.args.delta.now.pos c.args.delta.now.event.now c.requires.held c.in-Some.ensures.value c.requires.kept in
    let grounds : Grounds = record { rows = c.one_more_hit.ensures.rows; totals = c.one_more_hit.ensures.totals; members = c.one_more_hit.ensures.members; one = c.one_source.ensures } in
    record {
      kept = kept_after may c.apply.new.self c.in-Ok.ensures.forms c.in-Ok.ensures.views;
      deferred = search rules;
      forms = if_there (λ before. FormsStay before c.apply.new.self) c.in-Some.tables c.args.kept.now c.in-Some.ensures.value c.in-Ok.ensures.forms;
      told = subst (λ (ts : Triggers). IfSome c.args.kept.now (λ before. HasToldFew (map.entries ts) c.args.changes.now c.apply.new.changes before c.apply.new.self)) scene.triggers
          (if_there (λ before. HasToldFew (map.entries (triggers_of c.scene_of-scene.result)) c.args.changes.now c.apply.new.changes before c.apply.new.self) c.in-Some.tables c.args.kept.now c.in-Some.ensures.value c.in-Ok.ensures.told);
      quiet = λ plain. c.apply.ensures.quiet (plain_acts may plain);
      now = search rules;
      costs = change_costs may grounds c.args.work.now c.apply.new.work c.apply.ensures.evals c.apply.ensures.puts;
      grow = search rules;
    }

pub returns-in_default-apply : goal.returns-in_default-apply
returns-in_default-apply c =
    let scene = c.scene_of-scene.ensures in
    let may = may_change c.args.content.now scene.triggers scene.lanes scene.savers c.args.delta.now.sign c.args.delta.now.pos c.args.delta.now.event.now c.requires.held c.in-Some.ensures.value c.requires.kept in
    let grounds : Grounds = record { rows = c.one_more_hit.ensures.rows; totals = c.one_more_hit.ensures.totals; members = c.one_more_hit.ensures.members; one = c.one_source.ensures } in
    record {
      kept = search rules;
      deferred = search rules;
      forms = search rules;
      told = search rules;
      quiet = λ plain. c.apply.ensures.quiet (plain_acts may plain);
      now = λ line gone. absurd (c.in_default-apply.not-Ok tt (c.apply.ensures.memory (needs_none may line)));
      costs = change_costs may grounds c.args.work.now c.apply.new.work c.apply.ensures.evals c.apply.ensures.puts;
      grow = search rules;
    }
