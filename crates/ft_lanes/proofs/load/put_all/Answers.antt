-- The slots of one CPU more are put in.
use Rattle.std.proofs.Common.{length, ap, ◌∙◌, arith}
use Rattle.std.specs.Ordering.{nat_cmp}
use Rattle.std.specs.Vec.Iter.{into_iter_items}
use Rattle.ft_maps.specs.Seen.{seen}
use Rattle.ft_lanes.proofs.Merges.{merging-start, merging-step, merging-end, merging-part, merging-few, on_err, none_left}
use Rattle.ft_lanes.proofs.load.put_all.Goals as goal

pub loop-slots-init : goal.loop-slots-init
loop-slots-init c =
    let gives = c.into_iter-slots-iterator.ensures.into_iter_gives in
    record {
      all = merging-start (seen nat_cmp c.args.lanes.now) c.args.by_cpu.items _ gives.0 c.requires.few;
      long = omega (arith, ap length gives.0, gives.1, c.args.by_cpu.ok);
    }

pub overflow_cast-cpu : goal.overflow_cast-cpu
overflow_cast-cpu c =
    let few = merging-few (seen nat_cmp c.args.lanes.now) c.args.by_cpu.items (seen nat_cmp c.loop-slots.lanes) c.loop-slots.cpu _ c.in-Some.slots _ c.loop-slots.invariant.all c.in-Some.ensures.steps.0 in
    omega (arith, few)

pub overflow_add-cpu : goal.overflow_add-cpu
overflow_add-cpu c =
    let few = merging-few (seen nat_cmp c.args.lanes.now) c.args.by_cpu.items (seen nat_cmp c.loop-slots.lanes) c.loop-slots.cpu _ c.in-Some.slots _ c.loop-slots.invariant.all c.in-Some.ensures.steps.0 in
    omega (arith, few)

pub returns-in_err-put_any-clause-err : goal.returns-in_err-put_any-clause-err
returns-in_err-put_any-clause-err c =
    on_err c.from_residual.result
    (merging-part (seen nat_cmp c.args.lanes.now) c.args.by_cpu.items (seen nat_cmp c.loop-slots.lanes) (seen nat_cmp c.put_any.new.lanes) c.loop-slots.cpu _ c.loop-slots.invariant.all c.in_err-put_any.ensures.err)

pub loop-slots-preserved : goal.loop-slots-preserved
loop-slots-preserved c = record {
  all = merging-step (seen nat_cmp c.args.lanes.now) c.args.by_cpu.items (seen nat_cmp c.loop-slots.lanes) (seen nat_cmp c.put_any.new.lanes) c.loop-slots.cpu c.in-Some.slots _ _ c.loop-slots.invariant.all c.in-Some.ensures.steps.0 c.in_ok-put_any.ensures.ok;
  long = omega (arith, ap length c.in-Some.ensures.steps.0, c.in-Some.ensures.steps.1, c.loop-slots.invariant.long);
}

pub returns-clause-ok : goal.returns-clause-ok
returns-clause-ok c =
    merging-end (seen nat_cmp c.args.lanes.now) c.args.by_cpu.items (seen nat_cmp c.loop-slots.lanes) c.loop-slots.cpu _ c.loop-slots.invariant.all
    (none_left (into_iter_items c.loop-slots.slots-iterator) (c.loop-slots.invariant.long ∙ c.in-None.ensures.steps.0))
