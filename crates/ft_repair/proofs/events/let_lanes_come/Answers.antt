use Rattle.std.proofs.Common.{◌≡◌, ℕ, List, refl, sym, ap, subst, ◌∙◌, arith}
use Rattle.std.specs.FinMap as map
use Rattle.std.proofs.lemmas.List.{drop_all}
use Rattle.ft_repair.specs.SomeLanes.{AreKeptOfLanes, count_coming}
use Rattle.ft_replay.specs.Chosen.{lanes_of, lanes_but}
use Rattle.ft_repair.proofs.Changing.{next_of, next_views, next_held, next_before, changing_fewer}
use Rattle.ft_repair.proofs.EventLists.{AreComing, coming_all, events_none, count_events, counted, first_left}
use Rattle.ft_kept.proofs.Told.{readings_same, readings_trans}
use Rattle.ft_repair.proofs.Repaired.{if_there, there_if}
use Rattle.ft_base.specs.Base.{Triggers}
use Rattle.ft_base.specs.Reachable.{HasSavers}
use Rattle.ft_fields.specs.Traced.{Traced}
use Rattle.ft_fields.specs.declared.pos.Pos.{Pos}
use Rattle.ft_kept.proofs.Forms.{forms_refl, forms_trans}
use Rattle.ft_kept.specs.Changes.{ReadingsTold}
use Rattle.ft_kept.specs.Shelves.{FormsStay}
use Rattle.ft_kept.specs.Views.{triggers_of}
use Rattle.ft_lanes.specs.Held.{Lanes}
use Rattle.ft_maps.specs.Mapped.{entries_by}
use Rattle.ft_repair.specs.KeptShelves.{AreKept}
use Rattle.ft_replay.proofs.Stepping.{grow_more, grow_none}
use Rattle.ft_replay.specs.Merged.{merged}
use Rattle.ft_replay.specs.Named.{named}
use Rattle.ft_shelves.specs.declared.sign.Sign.TheVariants.{Insert}
use Rattle.ft_store.specs.Stored.{held}
use Rattle.ft_store.specs.declared.stored.Stored.{Stored}
use Rattle.std.proofs.lemmas.Option.{IfSome_then}
use Rattle.ft_repair.proofs.events.let_lanes_come.Goals as goal

pub loop-pos-init : goal.loop-pos-init
loop-pos-init c =
    let triggers : Triggers = triggers_of c.scene_of-scene.result in
    let lanes : Lanes = c.scene_of-scene.result.lanes.now in
    let cpus : List ℕ = c.args.before.now in
    let items : List (Pos × Stored) = c.deref-pos-items.result.now in
    let savers : HasSavers triggers = subst HasSavers (sym c.scene_of-scene.ensures.triggers) c.scene_of-scene.ensures.savers in
    let all : entries_by held items ≡ map.entries (named triggers (merged (lanes_but cpus lanes))) = ap (entries_by held) c.deref-pos-items.ensures.value ∙ c.in-Ok.ensures in
    let kept : AreKept triggers (merged (lanes_of cpus lanes)) c.in-Some.tables =
    subst (λ (both : Triggers × Lanes). AreKept both.0 (merged (lanes_of cpus both.1)) c.in-Some.tables) (λ i. (sym c.scene_of-scene.ensures.triggers i, sym c.scene_of-scene.ensures.lanes i))
    (there_if (AreKeptOfLanes cpus c.args.content.now) c.in-Some.tables c.args.kept.now c.in-Some.ensures.value c.requires) in
    record {
      coming = subst (λ (es : List (Pos × Traced)). AreComing lanes triggers cpus es c.in-Some.tables) (sym all) (coming_all lanes triggers cpus savers c.in-Some.tables kept);
      evals =
          let same : count_events triggers (map.entries (named triggers (merged (lanes_but cpus lanes)))) ≡ count_coming cpus c.args.content.now =
          λ i. count_events (c.scene_of-scene.ensures.triggers i) (map.entries (named (c.scene_of-scene.ensures.triggers i) (merged (lanes_but cpus (c.scene_of-scene.ensures.lanes i))))) in
          omega (arith, ap (count_events triggers) all, same);
      forms = if_there (λ before. FormsStay before c.in-Some.tables) c.in-Some.tables c.args.kept.now c.in-Some.ensures.value (forms_refl c.in-Some.tables);
      reread = if_there (λ before. ReadingsTold c.args.changes.now.readings c.args.changes.now.readings before c.in-Some.tables) c.in-Some.tables c.args.kept.now c.in-Some.ensures.value (readings_same c.args.changes.now.readings c.args.changes.now.readings c.in-Some.tables c.in-Some.tables refl (λ id pos. refl));
      grow = grow_none _;
    }

pub apply-requires : goal.apply-requires
apply-requires c =
    let more = first_left c.deref-pos-items.result.now c.loop-pos.pos-index c.loop-pos-item.result c.event.result c.loop-pos-test.true c.loop-pos-item.is c.event.ensures in
    let is = next_of more c.loop-pos.invariant.coming in
    record { views = next_views is; held = next_held is; before = λ id. next_before is id refl }

pub loop-pos-preserved : goal.loop-pos-preserved
loop-pos-preserved c =
    let more = first_left c.deref-pos-items.result.now c.loop-pos.pos-index c.loop-pos-item.result c.event.result c.loop-pos-test.true c.loop-pos-item.is c.event.ensures in
    record {
      coming = changing_fewer (next_of more c.loop-pos.invariant.coming) c.apply.new.self c.in_default-apply.ensures.forms c.in_default-apply.ensures.views;
      evals = let count = counted (triggers_of c.scene_of-scene.result) more in omega (arith, c.loop-pos.invariant.evals, count, c.in_default-apply.ensures.evals);
      forms = IfSome_then c.args.kept.now c.loop-pos.invariant.forms (λ before was. forms_trans before c.loop-pos.tables c.apply.new.self was c.in_default-apply.ensures.forms);
      reread = IfSome_then c.args.kept.now c.loop-pos.invariant.reread (λ before was. readings_trans was c.in_default-apply.ensures.told.told.under.readings);
      grow = grow_more _ _ _ c.loop-pos.invariant.grow c.in_default-apply.ensures.grow;
    }

pub returns-clause-kept : goal.returns-clause-kept
returns-clause-kept c =
    let none = ap (entries_by held) (drop_all c.loop-pos.pos-index c.deref-pos-items.result.now c.loop-pos-test.false) in
    subst (λ (both : Triggers × Lanes). AreKept both.0 (merged both.1) c.loop-pos.tables) (λ i. (c.scene_of-scene.ensures.triggers i, c.scene_of-scene.ensures.lanes i))
    (events_none (triggers_of c.scene_of-scene.result) c.scene_of-scene.result.lanes.now Insert _ (merged c.scene_of-scene.result.lanes.now) none c.loop-pos.invariant.coming)
