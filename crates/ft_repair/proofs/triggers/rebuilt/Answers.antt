use Rattle.std.proofs.Common.{◌≡◌, ℕ, List, true, refl, sym, ap, subst, ◌∙◌}
use Rattle.std.specs.FinMap as map
use Rattle.ft_repair.proofs.Outside.{new_idle}
use Rattle.ft_repair.proofs.KeptFor.{for_kept}
use Rattle.ft_repair.proofs.Putting.{IsPut, next_put, put_none, put_more, put_all, told_idle, idle_first, named_listed}
use Rattle.ft_base.specs.Base.{Triggers}
use Rattle.ft_base.specs.Reachable.{HasSavers}
use Rattle.ft_hist.specs.Hist.{Hist}
use Rattle.ft_kept.specs.Shelves.{Shelves}
use Rattle.ft_kept.specs.Views.{triggers_of}
use Rattle.ft_lanes.specs.Held.{Lanes}
use Rattle.ft_maps.specs.Mapped.{entries_by}
use Rattle.ft_repair.specs.KeptShelves.{AreKept}
use Rattle.ft_repair.specs.Outside.{AreRenewed}
use Rattle.ft_replay.proofs.Stepping.{grow_more, grow_none}
use Rattle.ft_replay.specs.Merged.{merged}
use Rattle.ft_store.specs.Stored.{held}
use Rattle.std.proofs.lemmas.Map.Iter.{rest_all, rest_more}
use Rattle.std.specs.Map.Iter.{deref_pair}
use Rattle.ft_repair.proofs.triggers.rebuilt.Goals as goal

pub loop-id-init : goal.loop-id-init
loop-id-init c =
    let triggers : Triggers = triggers_of c.scene_of-scene.result in
    let lanes : Lanes = c.scene_of-scene.result.lanes.now in
    let all : c.into_iter-id-iterator.result ≡ map.entries triggers = c.into_iter-id-iterator.ensures.into_iter_gives ∙ c.iter-id-items.ensures.rest in
    let savers : HasSavers triggers = subst HasSavers (sym c.scene_of-scene.ensures.triggers) c.scene_of-scene.ensures.savers in
    record {
      put = subst (λ (es : List (ℕ × Hist)). IsPut triggers lanes (λ _. true) es c.renew_shelves.new.tables) (sym all)
          (put_none triggers lanes (λ _. true) c.renew_shelves.new.tables (new_idle triggers lanes savers c.renew_shelves.new.tables
          (subst (λ (old : Shelves). AreRenewed triggers (λ _. true) old c.renew_shelves.new.tables) c.new-tables.ensures c.in_ok-renew_shelves.ensures)));
      grow = grow_none _;
    }

pub put_events-requires : goal.put_events-requires
put_events-requires c =
    let is = next_put (rest_more (deref_pair {K = ℕ} {X = Hist}) _ _ _ _ c.in-Some.is c.next.ensures.steps) c.loop-id.invariant.put in
    record {
      listed = named_listed (triggers_of c.scene_of-scene.result) c.scene_of-scene.result.lanes.now c.in-Some.id.now c.in-Some.trigger.now is.attached.0 (entries_by held c.deref.result.now) (ap (entries_by held) c.deref.ensures.value ∙ c.in_ok-events.ensures);
      can = record {
        attached = is.attached.0;
        kept = told_idle is;
        idle = idle_first is refl;
      };
    }

pub loop-id-preserved : goal.loop-id-preserved
loop-id-preserved c =
    let is = next_put (rest_more (deref_pair {K = ℕ} {X = Hist}) _ _ _ _ c.in-Some.is c.next.ensures.steps) c.loop-id.invariant.put in
    record {
      put = put_more is c.put_events.new.tables c.in_ok-put_events.ensures.joined;
      grow = grow_more _ _ _ c.loop-id.invariant.grow c.in_ok-put_events.ensures.grow;
    }

pub returns-clause-kept : goal.returns-clause-kept
returns-clause-kept c =
    let lanes : Lanes = c.scene_of-scene.result.lanes.now in
    subst (λ (held : Triggers × Lanes). AreKept held.0 (merged held.1) c.loop-id.tables) (λ i. (c.scene_of-scene.ensures.triggers i, c.scene_of-scene.ensures.lanes i))
    (for_kept (triggers_of c.scene_of-scene.result) lanes (merged lanes) c.loop-id.tables (put_all (rest_all (deref_pair {K = ℕ} {X = Hist}) _ _ _ c.in-None.is c.next.ensures.steps) c.loop-id.invariant.put))
