use Rattle.std.proofs.Common.{List, length, ap, arith}
use Rattle.std.proofs.lemmas.List.{drop_all}
use Rattle.ft_repair.proofs.Changing.{changing_none, next_of, next_views, next_held, its_before, its_fewer}
use Rattle.ft_repair.proofs.EventLists.{moving_all, first_left, all_of_them}
use Rattle.ft_repair.proofs.Putting.{asked_once}
use Rattle.ft_fields.specs.Traced.{Traced}
use Rattle.ft_fields.specs.declared.pos.Pos.{Pos}
use Rattle.ft_maps.specs.Mapped.{entries_by}
use Rattle.ft_replay.proofs.Stepping.{grow_more, grow_none}
use Rattle.ft_store.specs.Stored.{held}
use Rattle.ft_repair.proofs.triggers.Member.move_acts.Goals as goal

pub loop-pos-init : goal.loop-pos-init
loop-pos-init c = record {
  moving = moving_all c.args.self.now c.args.sign (entries_by held c.args.events.now) c.args.tables.now c.requires;
  evals = omega arith;
  grow = grow_none _;
}

pub apply_to-requires : goal.apply_to-requires
apply_to-requires c =
    let more = first_left c.args.events.now c.loop-pos.pos-index c.loop-pos-item.result c.event.result c.loop-pos-test.true c.loop-pos-item.is c.event.ensures in
    let is = next_of more c.loop-pos.invariant.moving in
    record {
      views = next_views is;
      its = c.requires.attached;
      held = next_held is;
      before = its_before c.args.self.now.id c.requires.attached is;
    }

pub loop-pos-preserved : goal.loop-pos-preserved
loop-pos-preserved c =
    let more = first_left c.args.events.now c.loop-pos.pos-index c.loop-pos-item.result c.event.result c.loop-pos-test.true c.loop-pos-item.is c.event.ensures in
    record {
      moving = its_fewer c.args.self.now.id c.requires.attached (next_of more c.loop-pos.invariant.moving) c.apply_to.new.self c.in_ok-apply_to.ensures.forms c.in_ok-apply_to.ensures.views;
      evals =
          let count = ap (λ (es : List (Pos × Traced)). length es) more in
          omega (arith, c.loop-pos.invariant.evals, count, c.in_ok-apply_to.ensures.evals, asked_once c.args.self.now.trigger.now c.event.result);
      grow = grow_more _ _ _ c.loop-pos.invariant.grow c.in_ok-apply_to.ensures.grow;
    }

pub returns-clause-moved : goal.returns-clause-moved
returns-clause-moved c = changing_none (ap (entries_by held) (drop_all c.loop-pos.pos-index c.args.events.now c.loop-pos-test.false)) c.loop-pos.invariant.moving

pub returns-in_err-apply_to-clause-evals : goal.returns-in_err-apply_to-clause-evals
returns-in_err-apply_to-clause-evals c =
    let more = first_left c.args.events.now c.loop-pos.pos-index c.loop-pos-item.result c.event.result c.loop-pos-test.true c.loop-pos-item.is c.event.ensures in
    let count = ap (λ (es : List (Pos × Traced)). length es) more in
    omega (arith, c.loop-pos.invariant.evals, count, c.apply_to.ensures.evals, asked_once c.args.self.now.trigger.now c.event.result, all_of_them c.args.events.now)
