use Rattle.std.proofs.Common.{◌≡◌, false, List, Some, None, sym, ap, subst, ◌∙◌}
use Rattle.std.specs.Prelude.{IsPermutation}
use Rattle.std.specs.FinMap as map
use Rattle.std.proofs.lemmas.List.Sorted.{IsPermutation-map}
use Rattle.std.proofs.lemmas.Result.{on_ok_weaker}
use Rattle.ft_replay.specs.Named.{has_name}
use Rattle.ft_repair.proofs.KeptFor.{input_is, kept_of, told_for}
use Rattle.ft_repair.proofs.Outside.{can_leave, gone_leaves}
use Rattle.ft_base.specs.Base.{Base, Triggers}
use Rattle.ft_base.specs.Roles.{is_reader}
use Rattle.ft_fields.specs.Traced.{Traced}
use Rattle.ft_fields.specs.declared.pos.Pos.{Pos}
use Rattle.ft_hist.specs.Hist.{Hist}
use Rattle.ft_hist.specs.Hit.{same_name}
use Rattle.ft_kept.specs.Acts.{Acts, acts_of}
use Rattle.ft_kept.specs.Views.{triggers_of}
use Rattle.ft_lanes.specs.Held.{Lanes}
use Rattle.ft_maps.specs.Mapped.{entries_by}
use Rattle.ft_replay.specs.Merged.{merged}
use Rattle.ft_store.specs.Stored.{held}
use Rattle.ft_store.specs.declared.stored.Stored.{Stored}
use Rattle.std.proofs.lemmas.Option.{none-some, same_Some}
use Rattle.ft_repair.proofs.triggers.take_reads.Goals as goal

pub returns-in_default-clause-leaves : goal.returns-in_default-clause-leaves
returns-in_default-clause-leaves c =
    let base : Base = c.args.content.now in
    let missing : map.get base.triggers c.args.id ≡ None = ap (λ (t : Triggers). map.get t c.args.id) (sym c.scene_of-scene.ensures.triggers) ∙ sym c.in_default.ensures in
    can_leave base c.args.id c.scene_of-scene.ensures.savers (λ hist there. absurd (none-some hist (sym missing ∙ there))) c.args.tables.now c.requires

pub returns-then-not-is_reader-clause-leaves : goal.returns-then-not-is_reader-clause-leaves
returns-then-not-is_reader-clause-leaves c =
    let base : Base = c.args.content.now in
    let attached : map.get base.triggers c.args.id ≡ Some c.in-Some.trigger.now = ap (λ (t : Triggers). map.get t c.args.id) (sym c.scene_of-scene.ensures.triggers) ∙ sym c.in-Some.ensures in
    let quiet : is_reader c.in-Some.trigger.now.variable ≡ false = sym c.is_reader.ensures ∙ c.if-not-is_reader.true in
    can_leave base c.args.id c.scene_of-scene.ensures.savers (λ hist there. subst (λ (h : Hist). is_reader h.variable ≡ false) (same_Some _ _ (sym attached ∙ there)) quiet) c.args.tables.now c.requires

pub move_acts-requires : goal.move_acts-requires
move_acts-requires c =
    let triggers : Triggers = triggers_of c.scene_of-scene.result in
    let lanes : Lanes = c.scene_of-scene.result.lanes.now in
    let items : List (Pos × Stored) = c.deref.result.now in
    let all : Acts = acts_of triggers (merged lanes) in
    let kept = kept_of c.args.content.now c.scene_of-scene.ensures.triggers c.scene_of-scene.ensures.lanes c.scene_of-scene.ensures.savers c.args.tables.now c.requires in
    record {
      attached = sym c.in-Some.ensures;
      kept = told_for triggers lanes all c.args.tables.now kept;
      before = λ at _. ap (λ (input : Acts). input at) (input_is triggers lanes all c.args.tables.now kept);
      names = has_name c.only.result;
      own = λ name same. c.only.ensures name ∙ ap (λ own. same_name own name) c.event.ensures ∙ same;
      all = subst (λ (es : List (Pos × Traced)). IsPermutation es (entries_by held items)) c.in_ok-events.ensures
          (IsPermutation-map (λ (e : Pos × Stored). (e.0, held e.1)) c.in_ok-events.events.items items (subst (IsPermutation c.in_ok-events.events.items) (sym c.deref.ensures.value) c.reverse.ensures.permutation));
    }

pub returns-clause-leaves : goal.returns-clause-leaves
returns-clause-leaves c =
    on_ok_weaker c.move_acts.result
    (gone_leaves c.args.content.now c.args.id c.scene_of-scene.ensures.triggers c.scene_of-scene.ensures.lanes c.scene_of-scene.ensures.savers c.args.tables.now c.move_acts.new.tables c.requires)
    c.move_acts.ensures.moved
