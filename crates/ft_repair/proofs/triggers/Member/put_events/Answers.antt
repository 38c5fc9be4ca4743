use Rattle.std.proofs.Common.{ℕ, List, ap, sym, subst, ◌∙◌}
use Rattle.std.specs.Prelude.{IsPermutation}
use Rattle.std.specs.FinMap as map
use Rattle.std.proofs.lemmas.List.Sorted.{IsPermutation-refl}
use Rattle.std.proofs.lemmas.Result.{on_ok_weaker}
use Rattle.ft_repair.proofs.Putting.{are_groups, joined_at_once}
use Rattle.ft_base.specs.Base.{Triggers}
use Rattle.ft_fields.specs.Traced.{Traced}
use Rattle.ft_fields.specs.declared.pos.Pos.{Pos}
use Rattle.ft_hist.specs.Hist.{Hist}
use Rattle.ft_kept.specs.Input.{input_of}
use Rattle.ft_kept.specs.Views.{triggers_of}
use Rattle.ft_lanes.specs.Held.{Lanes}
use Rattle.ft_maps.specs.Mapped.{entries_by}
use Rattle.ft_replay.specs.Merged.{merged}
use Rattle.ft_replay.specs.Named.{events_on}
use Rattle.ft_store.specs.Stored.{held}
use Rattle.ft_repair.proofs.triggers.Member.put_events.Goals as goal

pub move_acts-requires : goal.move_acts-requires
move_acts-requires c = record {
  attached = c.requires.can.attached;
  kept = c.requires.can.kept;
  before = λ at own. ap (λ (id : ℕ). input_of (triggers_of c.args.self.now.scene) c.args.self.now.scene.lanes.now c.args.tables.now (record { pos = at.pos; trigger = id })) own ∙ c.requires.can.idle at.pos;
  names = c.requires.listed.names;
  own = c.requires.listed.own;
  all = subst (λ (es : List (Pos × Traced)). IsPermutation (map.entries (events_on c.requires.listed.names (merged c.args.self.now.scene.lanes.now))) es) (sym c.requires.listed.all) (IsPermutation-refl _);
}

pub join-requires : goal.join-requires
join-requires c = record {
  shelved = c.requires.can.kept.views.shelved;
  attached = c.requires.can.attached;
  bare = c.is_bare.ensures c.if-is_bare.true;
  grouped = are_groups c.args.self.now.scene.lanes.now c.args.self.now.trigger.now (entries_by held c.args.events.now) c.requires.listed c.in_ok-groups.groups c.in_ok-groups.ensures.groups;
}

pub returns-then-is_bare-clause-joined : goal.returns-then-is_bare-clause-joined
returns-then-is_bare-clause-joined c =
    let triggers : Triggers = triggers_of c.args.self.now.scene in
    let lanes : Lanes = c.args.self.now.scene.lanes.now in
    let hist : Hist = c.args.self.now.trigger.now in
    let groups = are_groups lanes hist (entries_by held c.args.events.now) c.requires.listed c.in_ok-groups.groups c.in_ok-groups.ensures.groups in
    on_ok_weaker c.join.result
    (λ all. joined_at_once triggers lanes c.args.self.now.id hist c.requires.can.attached c.requires.listed.names c.requires.listed.own (input_of triggers lanes c.args.tables.now) c.requires.can.idle c.args.tables.now c.join.new.self c.requires.can.kept all.forms
    (all.right groups))
    c.join.ensures.joined
